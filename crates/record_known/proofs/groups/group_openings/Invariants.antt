-- `record_known::groups::group_openings` meets its contract: what is read next is in the record.
use Prim.Native.Nat.{◌≤◌}
use lib.ListN.{length}
use Rattle.record_known.proofs.groups.group_openings.Given as goal

abbrev pub invariant-loop-g : goal.invariant-loop-g
invariant-loop-g l = l.at ≤ length l.s
