-- `tree_four_messages::first_of` meets its contract. The loop's invariant: in each lane, the blocks that are left give the chaining value of all.
use Prim.Native.Nat.{ℕ}
use native.Mathlib.Omega.{arith}
use mathlib.Core.Path.{◌∙◌, ap}
use mathlib.Core.List.{List}
use Rattle.hash_four_lanes.specs.helpers.Lane as X
use Rattle.hash_four_chunks.specs.helpers.FourChunks.{which}
use Rattle.hash_chunk.specs.helpers.Blocks.{first_blocks}
use Rattle.hash_chunk.proofs.Blocks.{blocks_end, blocks_begin}
use Rattle.tree_four_messages.proofs.Blocks.{lane-next, no_count}
use Rattle.tree_four_messages.proofs.first_of.Goals as goal

pub loop-i-init : goal.loop-i-init
loop-i-init c = λ k b. blocks_begin _ _ _ _

pub loop-i-preserved : goal.loop-i-preserved
loop-i-preserved c =
    let a = c.args in
    λ k b.
    lane-next a.mode.flags a.blocks c.loop-i.i (X.lane 8 c.loop-i.v k) _ _
    (which a.s0.now a.s1.now a.s2.now a.s3.now k) _ _ _
    c.loop-i-test.true (c.blocks_at-m.ensures k b) c.start_flag-f.ensures (no_count k) (c.compress-v.ensures k b) (c.loop-i.invariant k b)

pub returns : goal.returns
returns c =
    let a = c.args in λ k b.
    blocks_end _ _ _ _ _ _ (omega arith) (c.loop-i.invariant k b)
    ∙ ap (λ (h : List ℕ). first_blocks h a.mode.flags a.blocks (which a.s0.now a.s1.now a.s2.now a.s3.now k))
    (c.spread-v.ensures k b)
