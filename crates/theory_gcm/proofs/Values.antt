-- The small values of SPECIFICATION 12.7: the standard's 1 and R as words, and the hash of test case 2 of the GCM specification. They are computed, the hash
-- by words.
use mathlib.Core.Path.{◌≡◌, refl}
use mathlib.Core.List.{List, [], ◌∷◌, ◌++◌, reverse}
use Prim.Native.Nat.{ℕ}
use Rattle.theory_laws.specs.Xor.{◌⊕◌, sel}
use Rattle.theory_laws.specs.Table.{tab}
use Rattle.theory_laws.specs.Lists.{runs, le_bytes}
use Rattle.theory_field.specs.Field.{reduction, xtime, mul_bits, ◌⊗◌}
use Rattle.theory_gcm.specs.Strings.{number_of, bits_of}
use Rattle.theory_gcm.specs.Blocks.{string_of, bytes_of, imported, exported, blocks, ghash_bytes}
use Rattle.theory_gcm.specs.helpers.Hash.{hash_from}
use Rattle.theory_gcm.proofs.Ghash.{ghash-words}

-- the bit string 1 0^127
pub one_word : imported (0x80 ∷ []) ≡ 1
unfolding imported string_of number_of tab
one_word = refl

-- 11100001 0^120
pub R-word : imported (0xe1 ∷ []) ≡ 0x87
unfolding imported string_of number_of tab
R-word = refl

-- a block as it is written, in hexadecimal digits from the left
abbrev pub written : ℕ → List ℕ
written x = reverse (le_bytes 16 x)

pub case_2 : ghash_bytes (written 0x66e94bd4ef8a2c3b884cfa59ca342b2e) (written 0x0388dace60b6a392f328c2b971b2fe78 ++ written 0x80)
    ≡ written 0xf38cbb1ad69223dcc3457ae5b6b0f885
unfolding blocks runs imported exported string_of bytes_of bits_of number_of tab le_bytes hash_from ◌⊗◌ mul_bits xtime reduction sel ◌⊕◌
case_2 = ghash-words (written 0x66e94bd4ef8a2c3b884cfa59ca342b2e) (written 0x0388dace60b6a392f328c2b971b2fe78 ++ written 0x80)
