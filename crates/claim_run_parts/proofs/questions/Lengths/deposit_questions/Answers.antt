-- `claim_run_parts::questions::Lengths::deposit_questions` meets its contract.
use native.Mathlib.Omega.{arith}
use Rattle.theory_laws.proofs.Questions.{asks, asks-given, yes_eq, no_eq}
use Rattle.claim_run_parts.proofs.Numbers.{asks-twice, trees_asked, roots_asked}
use Rattle.code_codeword.proofs.Lengths.{gammas_fit}
use Rattle.theory_record.proofs.Ranges.{sizes-small}
use Rattle.code_level.proofs.Totals.{levels_fit}
use borrow.Author.Rules.{rules}
use Rattle.claim_run_parts.proofs.questions.Lengths.deposit_questions.Goals as goal

pub overflow_mul-k : goal.overflow_mul-k
overflow_mul-k c =
    let p = c.requires in omega (arith, gammas_fit {n = c.args.n} {k = c.args.k} p.n_most p.k_most)

pub overflow_mul-k-2 : goal.overflow_mul-k-2
overflow_mul-k-2 c =
    let p = c.requires in omega (arith, gammas_fit {n = c.args.n} {k = c.args.k} p.n_most p.k_most)

pub returns-then-self-k : goal.returns-then-self-k
returns-then-self-k c = search (asks, asks-given, asks-twice) depth 16 fits 8000

pub levels_length-requires : goal.levels_length-requires
levels_length-requires c = c.requires

pub overflow_mul-levels_length : goal.overflow_mul-levels_length
overflow_mul-levels_length c = let h = levels_fit _ _ c.requires in search rules

pub returns-then-self-levels_length : goal.returns-then-self-levels_length
returns-then-self-levels_length c = search (asks, asks-given, asks-twice) depth 16 fits 8000

pub returns-then-self-n : goal.returns-then-self-n
returns-then-self-n c = search (asks, asks-given, asks-twice) depth 16 fits 8000

pub level_length-requires : goal.level_length-requires
level_length-requires c = (sizes-small _ _ c.requires, search rules)

pub returns-then-self-level_length : goal.returns-then-self-level_length
returns-then-self-level_length c = search (asks, asks-given, asks-twice) depth 18 fits 12000

pub returns-then-self-n-2 : goal.returns-then-self-n-2
returns-then-self-n-2 c = search (asks, asks-given, asks-twice) depth 18 fits 12000

pub trees_size-requires : goal.trees_size-requires
trees_size-requires c = c.requires

pub returns-then-self-trees_size : goal.returns-then-self-trees_size
returns-then-self-trees_size c = search (trees_asked, asks-given)

pub returns-then-self-n-3 : goal.returns-then-self-n-3
returns-then-self-n-3 c = search (roots_asked, no_eq)

pub returns : goal.returns
returns c = search (roots_asked, yes_eq)
