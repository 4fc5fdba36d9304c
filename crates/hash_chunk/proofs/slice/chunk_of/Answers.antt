-- `chunk::slice::chunk_of` meets its contract.
use Rattle.theory_blake3.specs.Chunk as B
use Rattle.hash_chunk.proofs.slice.chunk_of.Goals as goal

pub returns : goal.returns
unfolding B.chunk
returns c = c.chunk_rest.ensures
