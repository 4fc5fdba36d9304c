-- `export_tail_entries::tails` meets its contract.
use native.Mathlib.Omega.{arith}
use Rattle.export_tail_entries.specs.Tail.{answer}
use Rattle.export_tail_entries.proofs.Input.{whole, refused, found}
use Rattle.export_tail_entries.proofs.tails.Goals as goal

pub returns-in_err-questions : goal.returns-in_err-questions
returns-in_err-questions c = refused c.args.input.now c.from_residual.result _ c.from_residual.ensures.1 c.in_err-questions.ensures

pub bounds-input-0 : goal.bounds-input-0
bounds-input-0 c = omega (arith, (whole _ c.in_ok-questions.ensures).1)

pub bounds-input-1 : goal.bounds-input-1
bounds-input-1 c = omega (arith, (whole _ c.in_ok-questions.ensures).1)

pub last_level-entries-requires : goal.last_level-entries-requires
last_level-entries-requires c =
    rw (c.from-n.ensures, c.from-k.ensures) (whole _ c.in_ok-questions.ensures).0

pub invariant_of-result : goal.invariant_of-result
invariant_of-result c = record { few = rw c.from-k.ensures ((whole _ c.in_ok-questions.ensures).0.k≤) }

pub returns : goal.returns
unfolding answer
returns c =
    found c.args.input.now _ _ c.last_level-entries.result c.in_ok-questions.ensures
    c.from-n.ensures c.from-k.ensures c.last_level-entries.ensures
