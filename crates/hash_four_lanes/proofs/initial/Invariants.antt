-- `hash_four_lanes::initial`: lane after lane.
use mathlib.Core.Path.{◌≡◌}
use Prim.Native.Nat.{ℕ, ◌<◌}
use lib.ListN.{length}
use Rattle.theory_laws.specs.Table.{at}
use Rattle.theory_blake3.specs.Compression as C
use Rattle.hash_four_lanes.specs.helpers.Lane as X
use Rattle.hash_four_lanes.proofs.initial.Given as goal

abbrev pub invariant-loop-l : goal.invariant-loop-l
invariant-loop-l l = (length l.s ≡ 64) × ((k : ℕ) → k < l.l → X.lane 16 l.s k ≡ C.initial (X.lane 8 l.h k) (at l.counters k) l.len l.flags)
