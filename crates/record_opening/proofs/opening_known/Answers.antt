-- `record_opening::opening_known` meets its contract.
use Rattle.record_opening.proofs.Again.{known-leads, again-right, same_at}
use Rattle.record_opening.proofs.opening_known.Goals as goal

pub returns-then-eq : goal.returns-then-eq
returns-then-eq c =
    λ first. again-right _ _ _ _ _ _ (known-leads _ _ _ _ _ _ _ c.in-Some.is c.requires.1) _ _ _ (same_at _ _ _ c.if-eq.ensures)
