-- What inverting answers, by cases; and its laws: for any word but 0 the product with the answer is 1, of no other word.
use mathlib.Core.Path.{◌≡◌, refl, sym, ap, ap₂, ◌∙◌}
use mathlib.Core.Logic.{◌≢◌}
use Prim.Native.Nat.{ℕ, ◌^◌, ◌<◌}
use native.Mathlib.Omega.{arith}
use borrow.Author.Tests.{ne_eqb}
use lib.Bits.{bit_or, or_add_and, or_zero_l, and_le_l, and_le_r}
use Rattle.theory_field.specs.Field.{◌⊗◌, inverse}
use Rattle.theory_field.specs.Words.{joined}
use Rattle.theory_field.proofs.Inverse.{inverse-right, inverse_unique}
use Rattle.field_gf128.specs.Inverse.{refusal, inverse_of}

-- 0 is refused with 1
pub refused : inverse_of 0 ≡ (1, 0)
unfolding inverse_of refusal
refused = refl

-- every other word is answered
pub answered : (a : ℕ) → a ≢ 0 → inverse_of a ≡ (0, inverse a)
unfolding inverse_of refusal
answered a h = rw (ne_eqb a 0 h)

pub inverse_of-right : (a : ℕ) → a < 2 ^ 128 → a ≢ 0 → a ⊗ (inverse_of a).1 ≡ 1
inverse_of-right a l h = ap (λ (r : ℕ × ℕ). a ⊗ r.1) (answered a h) ∙ inverse-right a l h

pub inverse_of_unique : (a b : ℕ) → a < 2 ^ 128 → b < 2 ^ 128 → a ≢ 0 → a ⊗ b ≡ 1 → b ≡ (inverse_of a).1
inverse_of_unique a b la lb h e = inverse_unique a b la lb e ∙ sym (ap (λ (r : ℕ × ℕ). r.1) (answered a h))

-- the test that code makes: a word is 0 where its halves have no bit between them, and only there
pub or_zero : (h l : ℕ) → bit_or l h ≡ 0 → joined h l ≡ 0
or_zero h l e = ap₂ joined high low
  where
    high : h ≡ 0
    high = omega (arith, or_add_and l h, and_le_l l h)

    low : l ≡ 0
    low = omega (arith, or_add_and l h, and_le_r l h)

pub zero_or : (h l : ℕ) → joined h l ≡ 0 → bit_or l h ≡ 0
zero_or h l e = ap₂ bit_or low high ∙ or_zero_l 0
  where
    low : l ≡ 0
    low = omega arith

    high : h ≡ 0
    high = omega arith
