-- `tree_parts::put_parents` meets its contract. The loop's invariant: storing the parents that are left gives the final buffer.
use Prim.Native.Nat.{◌-◌, ◌*◌}
use mathlib.Core.Path.{◌≡◌}
use lib.ListN.{length, drop}
use Rattle.theory_laws.specs.Lists.{stored}
use Rattle.theory_blake3.specs.Modes.{under}
use Rattle.tree_parts.specs.helpers.Some.{some_parents}
use Rattle.tree_parts.proofs.put_parents.Given as goal

abbrev pub invariant-loop-done : goal.invariant-loop-done
invariant-loop-done l =
    (length l.out ≡ length l.initial.out)
    × (stored l.out (32 * l.done) (some_parents (under l.hashing.mode) l.hashing.domain.now l.level (l.all - l.done) (drop (64 * l.done) l.children))
    ≡ stored l.initial.out 0 (some_parents (under l.hashing.mode) l.hashing.domain.now l.level l.all l.children))

abbrev pub decreases-loop-done : goal.decreases-loop-done
decreases-loop-done l = l.all - l.done
