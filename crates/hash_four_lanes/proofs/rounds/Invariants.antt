-- `hash_four_lanes::rounds`: in each lane, what the orders that are left would do to the state is what all of them do to the first.
use mathlib.Core.Path.{◌≡◌}
use Prim.Native.Nat.{ℕ, ◌<◌}
use lib.ListN.{length, drop}
use Rattle.theory_blake3.specs.Orders as O
use Rattle.hash_four_lanes.specs.helpers.Lane as X
use Rattle.hash_four_lanes.proofs.rounds.Given as goal

abbrev pub invariant-loop-r : goal.invariant-loop-r
invariant-loop-r l = (length l.s ≡ 64) × (l.order ≡ O.orders) × (length l.order ≡ 7)
    × ((k : ℕ) → k < 4 → O.rounds_by (drop l.r l.order) (X.lane 16 l.s k) (X.lane 16 l.m k) ≡ O.rounds_by l.order (X.lane 16 l.initial.s k) (X.lane 16 l.m k))
