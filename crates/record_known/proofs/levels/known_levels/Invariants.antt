-- `record_known::levels::known_levels` meets its contract: what is known so far is so.
use Prim.Native.Nat.{◌+◌, ◌-◌, ◌≤◌}
use Rattle.theory_record.specs.Lent.{fixed_by}
use Rattle.tree_place.specs.Place.{index}
use Rattle.record_known.specs.helpers.Known.{LevelsKnown}
use Rattle.record_known.proofs.levels.known_levels.Given as goal

abbrev pub invariant-loop-e : goal.invariant-loop-e
invariant-loop-e l = (l.e ≤ l.deposit.n + 1) × LevelsKnown (fixed_by l.deposit) (index l.position) l.roots l.s l.ways

abbrev pub decreases-loop-e : goal.decreases-loop-e
decreases-loop-e l = l.deposit.n + 1 - l.e
