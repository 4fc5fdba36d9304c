-- `ChunkState::last` meets its contract.
use native.Mathlib.Omega.{arith}
use Rattle.hash_node.specs.helpers.Node.{out_of}
use Rattle.hash_chunk.proofs.Feed.{block-length, last_law}
use Rattle.hash_chunk.proofs.state.ChunkState.last.Goals as goal

pub last_words-m-requires : goal.last_words-m-requires
last_words-m-requires c =
    omega (arith, block-length c.args.self _ c.well_formed.0)

pub returns : goal.returns
unfolding out_of
returns c =
    let s = c.args.self in λ x. last_law s _ _ x (omega (arith, block-length s _ c.well_formed.0)) c.last_words-m.ensures c.start_flag-f.ensures
