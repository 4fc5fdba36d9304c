-- `tree_four_messages::first_of` meets its contract. The loop's invariant: in each lane, the blocks that are left give the chaining value of all.
use Prim.Native.Nat.{ℕ, ◌<◌, ◌-◌, ◌*◌}
use mathlib.Core.Path.{◌≡◌}
use lib.ListN.{drop}
use Rattle.hash_four_lanes.specs.helpers.Lane as X
use Rattle.hash_four_chunks.specs.helpers.FourChunks.{which}
use Rattle.hash_chunk.specs.helpers.Blocks.{blocks_from, first_blocks}
use Rattle.tree_four_messages.proofs.first_of.Given as goal

abbrev pub invariant-loop-i : goal.invariant-loop-i
invariant-loop-i l =
    (k : ℕ) → k < 4 → blocks_from l.mode.flags (l.blocks - l.i) l.i (X.lane 8 l.v k) (drop (64 * l.i) (which l.s0 l.s1 l.s2 l.s3 k))
    ≡ first_blocks (X.lane 8 l.initial.v k) l.mode.flags l.blocks (which l.s0 l.s1 l.s2 l.s3 k)
