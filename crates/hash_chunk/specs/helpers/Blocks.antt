-- The first blocks of a message of at most a chunk.
use Rattle.std.specs.Prelude.{ℕ, zero, suc, List, take, drop}
use Rattle.theory_blake3.specs.Flags.{start_flag}
use Rattle.theory_blake3.specs.Chunk.{next}

-- the chaining value after n whole blocks more of chunk 0, of which i came before and gave h
unfoldable pub blocks_from : ℕ → ℕ → ℕ → List ℕ → List ℕ → List ℕ
blocks_from d zero i h bs = h
blocks_from d (suc n) i h bs = blocks_from d n (suc i) (next d h (start_flag i) 0 (take 64 bs)) (drop 64 bs)

-- the chaining value of the first n blocks of a message, for key words and flags
unfoldable pub first_blocks : List ℕ → ℕ → ℕ → List ℕ → List ℕ
first_blocks key d n bs = blocks_from d n 0 key bs
