-- `hash_four_chunks::rests`: in each lane, what the rest of the message gives after the blocks so far is what the whole of it gives from h.
use mathlib.Core.Path.{◌≡◌}
use Prim.Native.Nat.{ℕ, ◌≤◌, ◌<◌, ◌-◌, ◌*◌, ◌+◌}
use lib.ListN.{length, drop}
use Rattle.theory_laws.specs.Table.{at}
use Rattle.theory_blake3.specs.Flags.{start_flag}
use Rattle.theory_blake3.specs.Chunk as B
use Rattle.hash_four_lanes.specs.helpers.Lane as X
use Rattle.hash_four_chunks.specs.helpers.FourChunks.{which}
use Rattle.hash_four_chunks.proofs.rests.Given as goal

abbrev pub invariant-loop-from : goal.invariant-loop-from
invariant-loop-from l =
    (l.from + 64 * l.blocks ≡ 64 * l.i) × (l.from ≤ length l.s0) × (l.i ≤ 15)
    × ((k : ℕ) → k < 4 → (y : ℕ) → B.chunk_from l.flags (15 - l.i) (X.lane 8 l.v k) (start_flag l.i) (at l.counters k) (drop l.from (which l.s0 l.s1 l.s2 l.s3 k)) y
    ≡ B.chunk_from l.flags (15 - l.blocks) (X.lane 8 l.initial.v k) (start_flag l.blocks) (at l.counters k) (which l.s0 l.s1 l.s2 l.s3 k) y)

abbrev pub decreases-loop-from : goal.decreases-loop-from
decreases-loop-from l = length l.s0 - l.from
