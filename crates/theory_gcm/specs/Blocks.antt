-- Blocks in bytes and as words, and GHASH in bytes (SPECIFICATION 2.8, 2.9): 16 bytes hold a block, the leftmost bit of each byte being its most
-- significant, and bit i of the block, the leftmost being bit 0, is the coefficient of x^i. Every list of numbers is taken for a block: its first 16
-- elements, zeros where it has fewer, and of an element the 8 low bits.
use Rattle.std.specs.Prelude.{ℕ, ◌+◌, ◌-◌, ◌*◌, ◌/◌, ◌%◌, List, map, length}
use Rattle.theory_laws.specs.Xor.{bit}
use Rattle.theory_laws.specs.Table.{tab, at}
use Rattle.theory_laws.specs.Lists.{runs}
use Rattle.theory_gcm.specs.Strings.{number_of, bits_of}
use Rattle.theory_gcm.specs.Ghash.{ghash}

-- the 128 bits of a block in bytes
unfoldable pub string_of : List ℕ → List ℕ
string_of bytes = tab 128 (λ i. bit (7 - i % 8) (at bytes (i / 8)))

-- the 16 bytes of a block in bits
unfoldable pub bytes_of : List ℕ → List ℕ
bytes_of x = tab 16 (λ j. number_of (tab 8 (λ i. at x (8 * j + (7 - i)))))

-- the word of a block
unfoldable pub imported : List ℕ → ℕ
imported bytes = number_of (string_of bytes)

-- the block of a word
unfoldable pub exported : ℕ → List ℕ
exported w = bytes_of (bits_of 128 w)

-- the blocks of a run of bytes
unfoldable pub blocks : List ℕ → List (List ℕ)
blocks bytes = runs 16 (length bytes / 16) bytes

-- GHASH of a run of bytes by a key, both in bytes
unfoldable pub ghash_bytes : List ℕ → List ℕ → List ℕ
ghash_bytes key bytes = bytes_of (ghash (string_of key) (map string_of (blocks bytes)))
