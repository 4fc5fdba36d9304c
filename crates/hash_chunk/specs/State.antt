-- A chunk that is fed byte by byte in a state by value, for every state: how it starts, what a byte changes, and its last block. Rests on the
-- chunk's blocks. That feeding a new state gives the chunk of the specification, and the digest where it is the whole message, are laws
-- (proofs/Stands).
use Rattle.std.specs.Prelude.{ℕ, ◌+◌, List, [], ◌∷◌, eqb, take, set, replicate}
use Rattle.theory_laws.specs.Questions.{pick}
use Rattle.theory_blake3.specs.Flags.{start_flag, root_node}
use Rattle.theory_blake3.specs.Compression.{cv}
use Rattle.theory_blake3.specs.Chunk.{next, last}
use Rattle.theory_blake3.specs.Digest.{bytes_of_words32}
use Rattle.hash_chunk.specs.declared.state.ChunkState.{ChunkState}

-- the state before the first byte
unfoldable pub started : List ℕ → ℕ → ℕ → ChunkState
started key d t = record { h = key; blocks = 0; block = replicate 64 0; fill = 0; counter = t; flags = d }

-- the block is compressed, and the next one is empty
unfoldable pub compressed : ChunkState → ChunkState
compressed s = record {
  h = next s.flags s.h (start_flag s.blocks) s.counter s.block;
  blocks = s.blocks + 1;
  block = s.block;
  fill = 0;
  counter = s.counter;
  flags = s.flags;
}

-- room for a byte that follows: a full block is compressed
abbrev pub roomy : ChunkState → ChunkState
roomy s = pick (eqb s.fill 64) (compressed s) s

-- the state with another block and fill
abbrev pub with_block : ChunkState → List ℕ → ℕ → ChunkState
with_block s b n = record { h = s.h; blocks = s.blocks; block = b; fill = n; counter = s.counter; flags = s.flags }

-- one byte more
unfoldable pub fed_byte : ChunkState → ℕ → ChunkState
fed_byte s b = with_block (roomy s) (set (roomy s).block (roomy s).fill b) ((roomy s).fill + 1)

-- bytes more, one after the other
unfoldable pub fed : ChunkState → List ℕ → ChunkState
fed s [] = s
fed s (b ∷ bs) = fed (fed_byte s b) bs

-- the chunk's last block, with one more flag
unfoldable pub last_of : ChunkState → ℕ → List ℕ
last_of s x = last s.flags s.h (start_flag s.blocks) s.counter (take s.fill s.block) x

-- the digest of a message that is this chunk alone
unfoldable pub finished : ChunkState → List ℕ
finished s = bytes_of_words32 (cv (last_of s root_node))
