-- `claim_fold_calls::call_at` meets its contract.
use native.Mathlib.Omega.{arith}
use borrow.Author.Rules.{rules}
use Rattle.claim_fold_calls.proofs.Turns.{same_by}
use Rattle.claim_fold_calls.proofs.call_at.Goals as goal

pub get-by-requires : goal.get-by-requires
get-by-requires c = let p = c.requires.0 in omega arith

pub overflow_add-result : goal.overflow_add-result
overflow_add-result c = let p = c.requires.0 in search rules

pub bounds-calls-from-2 : goal.bounds-calls-from-2
bounds-calls-from-2 c = let p = c.requires.0 in search rules

pub overflow_add-result-2 : goal.overflow_add-result-2
overflow_add-result-2 c = let p = c.requires.0 in search rules

pub bounds-calls-from-3 : goal.bounds-calls-from-3
bounds-calls-from-3 c = let p = c.requires.0 in search rules

pub overflow_add-result-3 : goal.overflow_add-result-3
overflow_add-result-3 c = let p = c.requires.0 in search rules

pub bounds-calls-from-4 : goal.bounds-calls-from-4
bounds-calls-from-4 c = let p = c.requires.0 in search rules

pub overflow_add-result-4 : goal.overflow_add-result-4
overflow_add-result-4 c = let p = c.requires.0 in search rules

pub bounds-calls-from-5 : goal.bounds-calls-from-5
bounds-calls-from-5 c = let p = c.requires.0 in search rules

pub returns : goal.returns
returns c = same_by _ c.get-by.ensures
