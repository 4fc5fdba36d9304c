-- One of the vectors published with BLAKE3, computed: the digest of a block of 64 bytes, which is one compression. The IV, the rotations, the
-- order of the message's words, and the flags of a root chunk are all in it.
use mathlib.Core.Path.{◌≡◌, refl}
use mathlib.Core.List.{[], ◌∷◌}
use Rattle.theory_laws.specs.Xor.{◌⊕◌}
use Rattle.theory_laws.specs.Table.{tab}
use Rattle.theory_laws.specs.Lists.{part, le_value, le_bytes, flat}
use Rattle.theory_blake3.specs.Compression.{add, rotr, half, mix, columns, diagonals, round, permutation, permuted, rounds}
use Rattle.theory_blake3.specs.Compression.{iv, cv, initial, output, compress}
use Rattle.theory_blake3.specs.Chunk.{word, block, last, chunk_from, chunk}
use Rattle.theory_blake3.specs.Tree.{tree}
use Rattle.theory_blake3.specs.Digest.{root, bytes_of_words32, digest, hash}

-- the bytes 0 to 63
pub digest_of_a-block : hash (tab 64 (λ i. i))
    ≡ 0x4E ∷ 0xED ∷ 0x71 ∷ 0x41 ∷ 0xEA ∷ 0x4A ∷ 0x5C ∷ 0xD4 ∷ 0xB7 ∷ 0x88 ∷ 0x60 ∷ 0x6B ∷ 0xD2 ∷ 0x3F ∷ 0x46 ∷ 0xE2
    ∷ 0x12 ∷ 0xAF ∷ 0x9C ∷ 0xAC ∷ 0xEB ∷ 0xAC ∷ 0xDC ∷ 0x7D ∷ 0x1F ∷ 0x4C ∷ 0x6D ∷ 0xC7 ∷ 0xF2 ∷ 0x51 ∷ 0x1B ∷ 0x98 ∷ []
unfolding hash digest root tree chunk chunk_from last block word compress rounds round columns diagonals mix half add rotr
    permutation permuted iv cv initial output bytes_of_words32 part le_value le_bytes flat tab ◌⊕◌
digest_of_a-block = refl
