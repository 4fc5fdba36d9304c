-- `hash_four_lanes::store`: the words go to the places of lane l, and no other place is written.
use mathlib.Core.Path.{◌≡◌}
use Prim.Native.Nat.{ℕ, ◌<◌, ◌-◌, ◌*◌, ◌+◌}
use lib.ListN.{length}
use Rattle.theory_laws.specs.Table.{at}
use Rattle.hash_four_lanes.proofs.store.Given as goal

abbrev pub invariant-loop-i : goal.invariant-loop-i
invariant-loop-i l = (length l.s ≡ 64) × ((j : ℕ) → j < l.i → at l.s (4 * j + l.l) ≡ at l.v j)
    × ((j k : ℕ) → k < 4 → 0 < k - l.l + (l.l - k) → at l.s (4 * j + k) ≡ at l.initial.s (4 * j + k))
