-- The product of blocks is the product of words: the loop of algorithm 1 runs over the bits of X as `mulBits` does, and V >> 1 with R is a word
-- times x.
use mathlib.Core.Path.{◌≡◌, refl, sym, ap, ap₂, ◌∙◌}
use mathlib.Core.Logic.{◌⊎◌, inl, inr}
use mathlib.Core.List.{List}
use Prim.Native.Nat.{ℕ, zero, suc, ◌*◌, ◌/◌, ◌%◌, ◌^◌}
use lib.Dec.{eqb}
use Rattle.theory_laws.specs.Xor.{◌⊕◌, bit, sel}
use Rattle.theory_laws.specs.Table.{tab}
use Rattle.theory_laws.specs.Questions.{pick}
use Rattle.theory_laws.proofs.Xor.{odd-cases, ⊕-zero, zero-⊕, ⊕_comm, ⊕_assoc}
use Rattle.theory_field.specs.Field.{reduction, xtime, mul_bits, ◌⊗◌}
use Rattle.theory_field.proofs.Product.{⊗_comm}
use Rattle.theory_gcm.specs.Strings.{◌⊻◌, shifted_right, rightmost, bits_of}
use Rattle.theory_gcm.specs.Product.{zero_block, R, next_v, steps, ◌•◌}
use Rattle.theory_gcm.proofs.Strings.{bits_of-suc, bits_of-mod, ⊻-bits_of, shifted_right-bits_of, rightmost-bits_of}

-- 0^128 and R, computed: R is x^7 + x^2 + x + 1
pub zero_block-bits : zero_block ≡ bits_of 128 0
unfolding zero_block bits_of tab
zero_block-bits = refl

pub R-bits : R ≡ bits_of 128 reduction
unfolding R bits_of tab reduction
R-bits = refl

-- a string, and another added to it where a bit is 1
added : (n b z v : ℕ) → (b ≡ 0) ⊎ (b ≡ 1) → pick (eqb b 1) (bits_of n z ⊻ bits_of n v) (bits_of n z) ≡ bits_of n (z ⊕ sel b v)
unfolding sel
added n b z v (inl e) = rw e (ap (bits_of n) (sym (⊕-zero z)))
added n b z v (inr e) = rw e (⊻-bits_of n z v)

-- V_(i+1) is V_i times x
pub next_v-xtime : (v : ℕ) → next_v (bits_of 128 v) ≡ bits_of 128 (xtime v)
unfolding next_v xtime
next_v-xtime v =
    ap₂ (λ (b : ℕ) (x : List ℕ). pick (eqb b 1) (x ⊻ R) x) (rightmost-bits_of 127 v) (shifted_right-bits_of 128 v ∙ sym (bits_of-mod 128 (2 * v)))
    ∙ ap (λ (r : List ℕ). pick (eqb (bit 127 v) 1) (bits_of 128 (2 * v % 2 ^ 128) ⊻ r) (bits_of 128 (2 * v % 2 ^ 128))) R-bits
    ∙ added 128 (bit 127 v) (2 * v % 2 ^ 128) reduction (odd-cases (v / 2 ^ 127))
    ∙ ap (bits_of 128) (⊕_comm (2 * v % 2 ^ 128) (sel (bit 127 v) reduction))

-- the loop
pub steps-mul_bits : (n x z v : ℕ) → steps (bits_of n x) (bits_of 128 z) (bits_of 128 v) ≡ bits_of 128 (z ⊕ mul_bits n v x)
unfolding steps mul_bits
steps-mul_bits zero x z v = unfold bits_of tab in ap (λ (y : ℕ). tab 128 (λ i. bit i y)) (sym (⊕-zero z))
steps-mul_bits (suc n) x z v =
    ap (λ (bs : List ℕ). steps bs (bits_of 128 z) (bits_of 128 v)) (bits_of-suc n x)
    ∙ ap₂ (steps (bits_of n (x / 2))) (added 128 (x % 2) z v (odd-cases x)) (next_v-xtime v)
    ∙ steps-mul_bits n (x / 2) (z ⊕ sel (x % 2) v) (xtime v)
    ∙ ap (bits_of 128) (⊕_assoc z (sel (x % 2) v) (mul_bits n (xtime v) (x / 2)))

-- THE LAW: the product of the bits of two words is the bits of their product
pub product-bits : (a b : ℕ) → bits_of 128 a • bits_of 128 b ≡ bits_of 128 (a ⊗ b)
unfolding ◌•◌ ◌⊗◌
product-bits a b =
    ap₂ (λ (z v : List ℕ). steps (bits_of 128 a) z v) zero_block-bits (sym (bits_of-mod 128 b))
    ∙ steps-mul_bits 128 a 0 (b % 2 ^ 128)
    ∙ ap (bits_of 128) (zero-⊕ (mul_bits 128 (b % 2 ^ 128) a) ∙ ⊗_comm b a)
