-- `first_blocks` meets its contract: the blocks that are left give the chaining value of all.
use Prim.Native.Nat.{◌-◌, ◌*◌}
use mathlib.Core.Path.{◌≡◌}
use lib.ListN.{drop}
use Rattle.hash_chunk.specs.helpers.Blocks.{blocks_from, first_blocks}
use Rattle.hash_chunk.proofs.slice.first_blocks.Given as goal

abbrev pub invariant-loop-i : goal.invariant-loop-i
invariant-loop-i l =
    blocks_from l.mode.flags (l.blocks - l.i) l.i l.h (drop (64 * l.i) l.message) ≡ first_blocks l.mode.key l.mode.flags l.blocks l.message
