-- `push_four`: the values go onto the stack in order, so that it stands for one chunk more after each.
use mathlib.Core.Path.{◌≡◌}
use mathlib.Core.List.{List}
use Prim.Native.Nat.{ℕ, ◌+◌, ◌*◌}
use lib.Count.{ones}
use Rattle.hash_hasher.specs.helpers.Walk.{Walked, Four}
use Rattle.hash_hasher.proofs.whole.push_four.Given as goal

abbrev pub invariant-loop-l : goal.invariant-loop-l
invariant-loop-l l =
    (l.stack.depth ≡ ones (l.t + l.l))
    × ((input : List ℕ) (from : ℕ) → Four l.mode.key l.mode.flags input from l.t l.v → Walked l.mode.key l.mode.flags input l.initial.stack from l.t
    → Walked l.mode.key l.mode.flags input l.stack (from + 1024 * l.l) (l.t + l.l))
