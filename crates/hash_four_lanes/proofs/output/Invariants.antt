-- `hash_four_lanes::output`: word by word, the two halves of the state.
use mathlib.Core.Path.{◌≡◌}
use Prim.Native.Nat.{ℕ, ◌<◌, ◌+◌}
use lib.ListN.{length}
use Rattle.theory_laws.specs.Table.{at}
use Rattle.theory_laws.specs.Xor.{◌⊕◌}
use Rattle.hash_four_lanes.proofs.output.Given as goal

abbrev pub invariant-loop-j : goal.invariant-loop-j
invariant-loop-j l = (length l.h ≡ 32) × ((k : ℕ) → k < l.j → at l.h k ≡ at l.s k ⊕ at l.s (k + 32))
