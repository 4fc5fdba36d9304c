-- `record_tail_build::put_groups` meets its contract: from group g on, what is left to store is what was left when the loop began.
use Rattle.record_tail_build.proofs.Groups.{groups_left}
use Prim.Native.Nat.{◌+◌, ◌*◌}
use mathlib.Core.Path.{◌≡◌}
use lib.ListN.{length}
use Rattle.theory_field.specs.Words.{words}
use Rattle.record_tail_build.proofs.put_groups.Given as goal

abbrev pub invariant-loop-g : goal.invariant-loop-g
invariant-loop-g l =
    (length l.out ≡ length l.initial.out) × (l.at ≡ 4 + l.g * (8 + 16 * l.width + 32 * l.depth))
    × (groups_left l.out l.at (words l.level) l.tree l.width l.depth l.groups l.g
    ≡ groups_left l.initial.out l.initial.at (words l.level) l.tree l.width l.depth l.groups 0)
