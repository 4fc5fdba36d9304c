-- `first_blocks` meets its contract.
use Rattle.hash_chunk.proofs.Chunk.{next_law}
use Rattle.hash_chunk.proofs.Blocks.{blocks_turn, blocks_end, blocks_begin}
use Rattle.hash_chunk.proofs.slice.first_blocks.Goals as goal

pub loop-i-init : goal.loop-i-init
loop-i-init c = blocks_begin _ _ _ _

pub loop-i-preserved : goal.loop-i-preserved
loop-i-preserved c =
    let a = c.args in
    blocks_turn a.mode.flags a.blocks c.loop-i.i c.loop-i.h _ a.message.now _ c.loop-i-test.true
    (next_law _ _ _ _ _ _ _ _ _ c.words_at-m.ensures c.start_flag-f.ensures c.compress.ensures c.first_eight-h.ensures) c.loop-i.invariant

pub returns : goal.returns
returns c = blocks_end _ _ _ _ _ _ c.loop-i-test.false c.loop-i.invariant
