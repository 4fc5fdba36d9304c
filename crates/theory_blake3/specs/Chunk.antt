-- Chunks (the specification's section 2.4): up to 1024 bytes, in blocks of up to 64. A node's output, here a chunk's, is taken with
-- one more flag x: ROOT at the root, none elsewhere; it is 16 words, of which the first eight are the node's chaining value.
use Rattle.std.specs.Prelude.{ℕ, zero, suc, ◌*◌, List, take, drop, length, leb}
use Rattle.std.specs.Int.Bits.{bit_or}
use Rattle.theory_laws.specs.Questions.{pick}
use Rattle.theory_laws.specs.Table.{tab}
use Rattle.theory_laws.specs.Lists.{part, le_value}
use Rattle.theory_blake3.specs.Flags.{chunk_start, chunk_end}
use Rattle.theory_blake3.specs.Compression.{cv, compress}

-- word i of a block: four bytes, the lowest first. Bytes past the block's end count as zeros
unfoldable pub word : List ℕ → ℕ → ℕ
word bs i = le_value (part 4 (4 * i) bs)

-- the 16 words of a block of at most 64 bytes
unfoldable pub block : List ℕ → List ℕ
block bs = tab 16 (word bs)

-- the last block of a chunk: mode flags d, chaining value h so far, the block's start flag s, chunk number t
unfoldable pub last : ℕ → List ℕ → ℕ → ℕ → List ℕ → ℕ → List ℕ
last d h s t bs x = compress h (block bs) t (length bs) (bit_or (bit_or d (bit_or s chunk_end)) x)

-- the chaining value after a block that is not the last
unfoldable pub next : ℕ → List ℕ → ℕ → ℕ → List ℕ → List ℕ
next d h s t bs = cv (compress h (block bs) t 64 (bit_or d s))

-- what becomes of a chunk whose first blocks gave the chaining value h, and of which the bytes bs are left, at most n + 1 blocks
unfoldable pub chunk_from : ℕ → ℕ → List ℕ → ℕ → ℕ → List ℕ → ℕ → List ℕ
chunk_from d zero h s t bs x = last d h s t bs x
chunk_from d (suc n) h s t bs x =
    let a = last d h s t bs x in
    let b = chunk_from d n (next d h s t (take 64 bs)) 0 t (drop 64 bs) x in
    pick (leb (length bs) 64) a b

-- the chunk with the number t, of at most 16 blocks
unfoldable pub chunk : List ℕ → ℕ → ℕ → List ℕ → ℕ → List ℕ
chunk key d t bs x = chunk_from d 15 key chunk_start t bs x
