-- Packing step by step: bytes that are bits, a byte's bit in a half, two halves in a word, and what the questions leave known.
use mathlib.Core.Path.{◌≡◌, refl, sym, ap, ◌∙◌}
use mathlib.Core.Bool.{Bool, true, false, ◌&&◌}
use mathlib.Core.List.{List, [], ◌∷◌}
use Prim.Native.Nat.{ℕ, zero, suc, ◌+◌, ◌*◌, ◌/◌, ◌%◌, ◌^◌, ◌≤◌, ◌<◌}
use native.Mathlib.Nat.{mod-eq_of_lt}
use native.Mathlib.Numerals.{add-one}
use native.Mathlib.Omega.{arith}
use borrow.Author.Tests.{le-leb, lt-leb, leb-true, eqb-true}
use lib.Bits.{bit_xor}
use lib.Dec.{leb}
use lib.ListN.{length, get_or, drop, drop_of_length-le}
use lib.Pow.{pow_mono, shl_lt}
use lib.Seq.{drop-cons}
use Rattle.std.specs.List.{list_all}
use Rattle.theory_laws.specs.Questions.{both}
use Rattle.theory_laws.specs.Sum.{sum}
use Rattle.theory_laws.specs.Table.{at}
use Rattle.theory_laws.specs.Xor.{◌⊕◌, sel}
use Rattle.theory_laws.proofs.Linear.{shl_additive}
use Rattle.theory_laws.proofs.Lists.{both_true}
use Rattle.theory_laws.proofs.Questions.{all_yes}
use Rattle.theory_laws.proofs.Sum.{sum-ext, sum-split, sum-map, made-lt}
use Rattle.theory_laws.proofs.Xor.{⊕_comm, ⊕-parts, sel-times}
use Rattle.theory_field.specs.Words.{joined}
use Rattle.theory_multilinear.specs.Partials.{word_of}
use Rattle.field_pack.specs.Pack.{all_bits, pack_questions, pack_number}
use Rattle.theory_laws.proofs.Windows.{sum_more, sel-shl}

-- ---- is each byte 0 or 1

-- as `all` answers it
pub all-listed : (s : List ℕ) → list_all (λ b. leb b 1) s ≡ all_bits s
unfolding all_bits
all-listed [] = refl
all-listed (b ∷ s) = go (leb b 1) (all-listed s)
  where
    go : (t : Bool) → list_all (λ b. leb b 1) s ≡ all_bits s → (t && list_all (λ b. leb b 1) s) ≡ both t (all_bits s)
    go true e = e
    go false e = refl

-- as a loop over the bytes finds it: what is left of them gives the answer
module _ (s : List ℕ) (i : ℕ) (r : Bool) where
  pub bits-step : i < length s → get_or s i 0 ≤ 1 → all_bits (drop i s) ≡ r → all_bits (drop (i + 1) s) ≡ r
  unfolding all_bits
  bits-step h t e = rw add-one (rw (drop-cons s i 0, le-leb (get_or s i 0) 1) at e)

  pub bits_stop : i < length s → 1 < get_or s i 0 → all_bits (drop i s) ≡ r → false ≡ r
  unfolding all_bits
  bits_stop h t e = rw (drop-cons s i 0, lt-leb (get_or s i 0) 1) at e

  pub bits_end : length s ≤ i → all_bits (drop i s) ≡ r → true ≡ r
  unfolding all_bits
  bits_end h e = rw (drop_of_length-le s) at e

pub is-bit : (s : List ℕ) → all_bits s ≡ true → (k : ℕ) → at s k < 2
unfolding all_bits
is-bit [] e k = omega arith
is-bit (b ∷ s) e zero = let h = leb-true b 1 (both_true (leb b 1) (all_bits s) e).0 in omega arith
is-bit (b ∷ s) e (suc k) = is-bit s (both_true (leb b 1) (all_bits s) e).1 k

-- ---- what the questions leave known

pub all-packed : (bytes : List ℕ) (len q : ℕ) → q ≡ pack_number bytes len → q ≡ 0
    → (length bytes % 128 ≡ 0) × (all_bits bytes ≡ true) × (len ≡ 2 * (length bytes / 128))
unfolding pack_number
all-packed bytes len q f z =
    let y = all_yes (pack_questions bytes len) tt (sym f ∙ z) in
    (eqb-true (length bytes % 128) 0 y.0, y.1.0, eqb-true len (2 * (length bytes / 128)) y.1.1.0)

-- ---- bits put together

-- a bit, shifted within 64 places, is the value that it chooses
shifted-bit : (x b : ℕ) → x < 2 → b < 64 → x * 2 ^ b % 2 ^ 64 ≡ sel x (2 ^ b)
shifted-bit x b hx hb = mod-eq_of_lt fits ∙ sym (sel-times x (2 ^ b) hx)
  where
    fits : x * 2 ^ b < 2 ^ 64
    fits =
        let p : 2 ^ (1 + b) ≤ 2 ^ 64 = pow_mono {j = 64} (omega arith) in
        let q : x * 2 ^ b < 2 ^ (1 + b) = shl_lt 1 b hx in
        omega arith

-- one more bit of a half
pub half-more : (f : ℕ → ℕ) (b h x : ℕ) → b < 64 → x ≡ f b → x < 2 → h ≡ sum b (λ j. sel (f j) (2 ^ j))
    → bit_xor h (x * 2 ^ b % 2 ^ 64) ≡ sum (b + 1) (λ j. sel (f j) (2 ^ j))
unfolding ◌⊕◌
half-more f b h x hb e hx g = sum_more (λ j. sel (f j) (2 ^ j)) b h (x * 2 ^ b % 2 ^ 64) _ refl (shifted-bit x b hx hb ∙ ap (λ (y : ℕ). sel y (2 ^ b)) e) g

-- two halves of 64 bits are a word
pub halves-word : (f : ℕ → ℕ) → ((b : ℕ) → f b < 2)
    → joined (sum 64 (λ b. sel (f (64 + b)) (2 ^ b))) (sum 64 (λ b. sel (f b) (2 ^ b))) ≡ word_of f
unfolding word_of
halves-word f h =
    sym (⊕-parts (sum 64 (λ b. sel (f (64 + b)) (2 ^ b))) 64 (sum 64 (λ b. sel (f b) (2 ^ b))) (made-lt f h 64))
    ∙ ap (λ (x : ℕ). x ⊕ sum 64 (λ b. sel (f b) (2 ^ b)))
    (sum-map (λ x. x * 2 ^ 64) (shl_additive 64) 64 (λ b. sel (f (64 + b)) (2 ^ b)) ∙ sum-ext 64 (λ b k. sel-shl (f (64 + b)) b 64))
    ∙ ⊕_comm (sum 64 (λ b. sel (f (64 + b)) (2 ^ (64 + b)))) (sum 64 (λ b. sel (f b) (2 ^ b)))
    ∙ sym (sum-split 64 64 (λ b. sel (f b) (2 ^ b)))
