-- `hash_four_lanes::ordered`: each word is read where the order has it.
use mathlib.Core.Path.{◌≡◌}
use Prim.Native.Nat.{ℕ, ◌<◌}
use lib.ListN.{length}
use Rattle.theory_laws.specs.Table.{at}
use Rattle.hash_four_lanes.specs.helpers.Lane as X
use Rattle.hash_four_lanes.proofs.ordered.Given as goal

abbrev pub invariant-loop-i : goal.invariant-loop-i
invariant-loop-i l = (length l.v ≡ 16) × ((k : ℕ) → k < l.i → at l.v k ≡ at (X.lane 16 l.m l.l) (at l.o k))
