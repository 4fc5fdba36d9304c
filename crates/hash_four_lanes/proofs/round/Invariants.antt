-- `hash_four_lanes::round`: lane after lane, the words in their order and a round over them; the lanes not yet reached are as they were.
use mathlib.Core.Path.{◌≡◌}
use Prim.Native.Nat.{ℕ, ◌≤◌, ◌<◌}
use lib.ListN.{length}
use Rattle.theory_blake3.specs.Compression as C
use Rattle.theory_blake3.specs.Orders as O
use Rattle.hash_four_lanes.specs.helpers.Lane as X
use Rattle.hash_four_lanes.proofs.round.Given as goal

abbrev pub invariant-loop-l : goal.invariant-loop-l
invariant-loop-l l = (length l.s ≡ 64) × ((k : ℕ) → k < l.l → X.lane 16 l.s k ≡ C.round (X.lane 16 l.initial.s k) (O.ordered (X.lane 16 l.m k) l.o))
    × ((k : ℕ) → l.l ≤ k → k < 4 → X.lane 16 l.s k ≡ X.lane 16 l.initial.s k)
