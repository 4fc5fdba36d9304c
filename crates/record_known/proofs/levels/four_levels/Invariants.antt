-- `record_known::levels::four_levels` meets its contract: one level after the other.
use Rattle.theory_record.specs.Lent.{fixed_by}
use Rattle.tree_place.specs.Place.{index}
use Rattle.record_known.specs.helpers.Known.{LevelsKnown}
use Rattle.record_known.proofs.levels.four_levels.Given as goal

abbrev pub invariant-loop-j : goal.invariant-loop-j
invariant-loop-j l = LevelsKnown (fixed_by l.deposit) (index l.fn.position) l.roots l.s l.ways
