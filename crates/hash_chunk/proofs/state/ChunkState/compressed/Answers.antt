-- `ChunkState::compressed` meets its contract.
use mathlib.Core.Path.{◌∙◌}
use native.Mathlib.Omega.{arith}
use Rattle.hash_node.proofs.Laws.{block-whole}
use Rattle.hash_chunk.proofs.Chunk.{next_law}
use Rattle.hash_chunk.proofs.Feed.{block-length, compressed_law}
use Rattle.hash_chunk.proofs.state.ChunkState.compressed.Goals as goal

pub words_at-m-requires : goal.words_at-m-requires
words_at-m-requires c =
    omega (arith, block-length c.args.self _ c.well_formed.0)

pub returns : goal.returns
returns c =
    let s = c.args.self in compressed_law s
    (next_law s.flags s.counter s.h _ s.block _ _ _ _ (c.words_at-m.ensures ∙ block-whole s.block)
    c.start_flag-f.ensures c.compress.ensures c.first_eight-h.ensures)
