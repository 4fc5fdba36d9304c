-- The standard's product, sum and hash of blocks in bytes are the field's of their words: for every list, since every list is taken for a block.
use mathlib.Core.Path.{◌≡◌, refl, sym, ap, ap₂, ◌∙◌}
use mathlib.Core.List.{List, [], ◌∷◌, map}
use Prim.Native.Nat.{ℕ, ◌-◌, ◌/◌, ◌%◌, ◌^◌, ◌<◌}
use lib.ListN.{length}
use lib.Pow.{pow_pos}
use Rattle.theory_laws.specs.Xor.{◌⊕◌, bit}
use Rattle.theory_laws.specs.Table.{tab, at}
use Rattle.theory_laws.proofs.Xor.{⊕-lt}
use Rattle.theory_laws.proofs.Table.{length-tab, at-tab-lt}
use Rattle.theory_field.specs.Field.{◌⊗◌}
use Rattle.theory_field.proofs.Product.{⊗-lt}
use Rattle.theory_gcm.specs.Strings.{◌⊻◌, bits_of}
use Rattle.theory_gcm.specs.Product.{◌•◌}
use Rattle.theory_gcm.specs.Ghash.{ghash_from, ghash}
use Rattle.theory_gcm.specs.Blocks.{string_of, bytes_of, imported, exported, blocks, ghash_bytes}
use Rattle.theory_gcm.specs.helpers.Hash.{hash_from}
use Rattle.theory_gcm.proofs.Strings.{⊻-bits_of, bits_of-number_of, number_of-lt}
use Rattle.theory_gcm.proofs.Product.{zero_block-bits, product-bits}
use Rattle.theory_gcm.proofs.Mirrored.{bit-lt, imported-exported}

string_of-long : (l : List ℕ) → length (string_of l) ≡ 128
unfolding string_of
string_of-long l = length-tab 128 (λ i. bit (7 - i % 8) (at l (i / 8)))

string_of-each : (l : List ℕ) (i : ℕ) → at (string_of l) i < 2
unfolding string_of
string_of-each l = at-tab-lt 1 128 (λ i. bit (7 - i % 8) (at l (i / 8))) (λ i. bit-lt (7 - i % 8) (at l (i / 8)))

-- a block in bits is the bits of its word
pub string_of-bits : (l : List ℕ) → string_of l ≡ bits_of 128 (imported l)
unfolding imported
string_of-bits l = sym (bits_of-number_of 128 (string_of l) (string_of-long l) (string_of-each l))

-- and its word is a word
pub imported-lt : (l : List ℕ) → imported l < 2 ^ 128
unfolding imported
imported-lt l = number_of-lt 128 (string_of l) (string_of-long l) (string_of-each l)

-- the word of a sum is the sum of the words
pub imported-sum : (x y : List ℕ) → imported (bytes_of (string_of x ⊻ string_of y)) ≡ imported x ⊕ imported y
imported-sum x y =
    ap (λ (s : List ℕ). imported (bytes_of s)) (ap₂ ◌⊻◌ (string_of-bits x) (string_of-bits y) ∙ ⊻-bits_of 128 (imported x) (imported y))
    ∙ (unfold exported in imported-exported (imported x ⊕ imported y) (⊕-lt 128 (imported x) (imported y) (imported-lt x) (imported-lt y)))

-- the word of a product is the product of the words
pub imported-product : (x y : List ℕ) → imported (bytes_of (string_of x • string_of y)) ≡ imported x ⊗ imported y
imported-product x y =
    ap (λ (s : List ℕ). imported (bytes_of s)) (ap₂ ◌•◌ (string_of-bits x) (string_of-bits y) ∙ product-bits (imported x) (imported y))
    ∙ (unfold exported in imported-exported (imported x ⊗ imported y) (⊗-lt (imported x) (imported y)))

-- ---- the hash

from-words : (h y : ℕ) (ws : List ℕ) → ghash_from (bits_of 128 h) (bits_of 128 y) (map (bits_of 128) ws) ≡ bits_of 128 (hash_from h y ws)
unfolding ghash_from hash_from
from-words h y [] = refl
from-words h y (w ∷ ws) =
    ap (λ (z : List ℕ). ghash_from (bits_of 128 h) z (map (bits_of 128) ws))
    (ap (λ (s : List ℕ). s • bits_of 128 h) (⊻-bits_of 128 y w) ∙ product-bits (y ⊕ w) h)
    ∙ from-words h ((y ⊕ w) ⊗ h) ws

strings_of : (bs : List (List ℕ)) → map string_of bs ≡ map (bits_of 128) (map imported bs)
strings_of [] = refl
strings_of (b ∷ bs) = ap₂ (λ (s : List ℕ) (r : List (List ℕ)). s ∷ r) (string_of-bits b) (strings_of bs)

-- THE LAW: the standard's hash is the export of the hash by words, for every key and every run
pub ghash-words : (key bytes : List ℕ) → ghash_bytes key bytes ≡ exported (hash_from (imported key) 0 (map imported (blocks bytes)))
unfolding ghash_bytes ghash exported
ghash-words key bytes =
    ap bytes_of
    (ap₂ (λ (h : List ℕ) (z : List ℕ). ghash_from h z (map string_of (blocks bytes))) (string_of-bits key) zero_block-bits
    ∙ ap (ghash_from (bits_of 128 (imported key)) (bits_of 128 0)) (strings_of (blocks bytes))
    ∙ from-words (imported key) 0 (map imported (blocks bytes)))

hash_from-lt : (h y : ℕ) (ws : List ℕ) → y < 2 ^ 128 → hash_from h y ws < 2 ^ 128
unfolding hash_from
hash_from-lt h y [] l = l
hash_from-lt h y (w ∷ ws) l = hash_from-lt h ((y ⊕ w) ⊗ h) ws (⊗-lt (y ⊕ w) h)

-- so the word of the hash is the hash of the words
pub imported-ghash : (key bytes : List ℕ) → imported (ghash_bytes key bytes) ≡ hash_from (imported key) 0 (map imported (blocks bytes))
imported-ghash key bytes =
    let ws = map imported (blocks bytes) in
    ap imported (ghash-words key bytes) ∙ imported-exported (hash_from (imported key) 0 ws) (hash_from-lt (imported key) 0 ws (pow_pos 128))
