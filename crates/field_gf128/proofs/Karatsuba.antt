-- The carry-less product of two words out of three products of halves, as code joins them.
use mathlib.Core.Path.{◌≡◌, sym, ap, ap₂, ◌∙◌}
use Prim.Native.Nat.{ℕ, ◌+◌, ◌*◌, ◌^◌, ◌<◌}
use native.Mathlib.Nat.{mul_assoc, add-zero}
use lib.Pow.{pow_pos}
use Rattle.theory_laws.specs.Xor.{◌⊕◌}
use Rattle.theory_laws.proofs.Xor.{⊕_comm, ⊕-zero, ⊕_assoc, ⊕-left_comm, ⊕-lt, ⊕-block, ⊕-parts, ⊕-shl}
use Rattle.theory_field.specs.LongProduct.{long}
use Rattle.theory_field.specs.Words.{joined}
use Rattle.theory_field.proofs.LongProduct.{karatsuba}
use Rattle.field_gf128.proofs.Halves.{joined-lt, low-⊕}

-- x the product of the low halves, y that of the high halves, z the middle term
pub three_products : (al ah bl bh xl xh yl yh zl zh : ℕ) → al < 2 ^ 64 → bl < 2 ^ 64
    → xl < 2 ^ 64 → xh < 2 ^ 64 → yl < 2 ^ 64 → zl < 2 ^ 64 → zh < 2 ^ 64
    → joined xh xl ≡ long 64 al bl → joined yh yl ≡ long 64 ah bh
    → joined zh zl ≡ long 64 (al ⊕ ah) (bl ⊕ bh) ⊕ (long 64 al bl ⊕ long 64 ah bh)
    → joined yh (zh ⊕ yl) * 2 ^ 128 + joined (xh ⊕ zl) xl ≡ long 128 (joined ah al) (joined bh bl)
three_products al ah bl bh xl xh yl yh zl zh hal hbl hxl hxh hyl hzl hzh ex ey ez =
    sym
    (karatsuba al ah bl bh hal hbl
    ∙ ap₂ (λ (p q : ℕ). (long 64 al bl ⊕ p * 2 ^ 64) ⊕ q) (sym ez) (mul_assoc (long 64 ah bh) (2 ^ 64) (2 ^ 64))
    ∙ ap₂ (λ (p q : ℕ). (p ⊕ joined zh zl * 2 ^ 64) ⊕ q * 2 ^ 128) (sym ex) (sym ey)
    ∙ ap (λ (p : ℕ). (joined xh xl ⊕ p) ⊕ joined yh yl * 2 ^ 128) middle
    ∙ regroup (joined xh xl) (zh * 2 ^ 128) (zl * 2 ^ 64) (joined yh yl * 2 ^ 128)
    ∙ ap₂ ◌⊕◌ (⊕-shl 128 zh (joined yh yl) ∙ ap (λ (x : ℕ). x * 2 ^ 128) (low-⊕ zh yh yl hzh hyl)) low
    ∙ ⊕-parts (joined yh (zh ⊕ yl)) 128 (joined (xh ⊕ zl) xl) (joined-lt (xh ⊕ zl) xl (⊕-lt 64 xh zl hxh hzl) hxl))
  where
    middle : joined zh zl * 2 ^ 64 ≡ zh * 2 ^ 128 ⊕ zl * 2 ^ 64
    middle =
        ap (λ (x : ℕ). x * 2 ^ 64) (sym (⊕-parts zh 64 zl hzl)) ∙ sym (⊕-shl 64 (zh * 2 ^ 64) zl)
        ∙ ap (λ (x : ℕ). x ⊕ zl * 2 ^ 64) (mul_assoc zh (2 ^ 64) (2 ^ 64))

    low : joined xh xl ⊕ zl * 2 ^ 64 ≡ joined (xh ⊕ zl) xl
    low =
        ap (λ (x : ℕ). joined xh xl ⊕ x) (sym (add-zero (zl * 2 ^ 64))) ∙ ⊕-block 64 xh zl xl 0 hxl (pow_pos 64)
        ∙ ap (joined (xh ⊕ zl)) (⊕-zero xl)

    regroup : (p q r s : ℕ) → (p ⊕ (q ⊕ r)) ⊕ s ≡ (q ⊕ s) ⊕ (p ⊕ r)
    regroup p q r s = simp (⊕_assoc, ⊕-left_comm, ⊕_comm)
