-- `ChunkState::feed_part` meets its contract.
use mathlib.Core.Path.{refl}
use Prim.Native.Nat.{◌+◌}
use lib.ListN.{length}
use Rattle.theory_laws.specs.Lists.{le_bytes}
use Rattle.theory_laws.proofs.Lists.{length-le_bytes}
use Rattle.hash_chunk.proofs.Feed.{fits_after, fed_then}
use Rattle.hash_chunk.proofs.state.ChunkState.feed_part.Goals as goal

pub feed-requires : goal.feed-requires
feed-requires c =
    let a = c.args in let size = length a.bytes.now in
    fits_after a.self _ (le_bytes 8 size) 8 size (8 + size) c.feed_number-t.ensures (length-le_bytes 8 size) refl c.requires

pub returns : goal.returns
returns c = fed_then _ _ _ c.feed_number-t.ensures c.feed.ensures
