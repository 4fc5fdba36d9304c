-- `record_known::levels::level_openings` meets its contract: what is read next is in the record.
use Prim.Native.Nat.{◌≤◌}
use lib.ListN.{length}
use Rattle.record_known.proofs.levels.level_openings.Given as goal

abbrev pub invariant-loop-l : goal.invariant-loop-l
invariant-loop-l l = l.at ≤ length l.s
