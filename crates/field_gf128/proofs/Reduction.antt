-- The reduction that code makes is additive, and right on each x^i; so it is right.
use mathlib.Core.Path.{◌≡◌, refl, sym, ap, ap₂, ◌∙◌}
use mathlib.Core.Bool.{Bool}
use Prim.Native.Nat.{ℕ, ◌+◌, ◌*◌, ◌/◌, ◌%◌, ◌^◌, ◌<◌}
use native.Mathlib.Nat.{mod-lt}
use native.Mathlib.Omega.{arith}
use lib.Pow.{pow_pos, high, low}
use lib.Dec.{T, eqb, eqb→eq}
use Rattle.theory_laws.specs.Xor.{◌⊕◌, sel}
use Rattle.theory_laws.proofs.Xor.{⊕-lt, ⊕-block, ⊕-parts}
use Rattle.theory_laws.proofs.Linear.{Additive, ext, all_below, below, sum_additive, then_additive, shl_additive, shr_additive, mod_additive, shl-mod_additive}
use Rattle.theory_field.specs.Field.{reduction, xtime, mul_bits, ◌⊗◌}
use Rattle.theory_field.specs.Words.{joined}
use Rattle.theory_field.proofs.Product.{⊗-⊕}
use Rattle.theory_field.proofs.LongProduct.{red}
use Rattle.field_gf128.proofs.Halves.{joined-lt}

-- a half times x^7 + x^2 + x + 1: the bits that stay in the half, and those that leave it
unfoldable pub kept : ℕ → ℕ
kept h = h ⊕ (h * 2 % 2 ^ 64 ⊕ (h * 4 % 2 ^ 64 ⊕ h * 128 % 2 ^ 64))

unfoldable pub past : ℕ → ℕ
past h = h / 2 ^ 63 ⊕ (h / 2 ^ 62 ⊕ h / 2 ^ 57)

kept-⊕ : Additive kept
unfolding kept
kept-⊕ = sum_additive (λ h. h) _ (λ a b. refl) (sum_additive _ _ (shl-mod_additive 1 64) (sum_additive _ _ (shl-mod_additive 2 64) (shl-mod_additive 7 64)))

past-⊕ : Additive past
unfolding past
past-⊕ = sum_additive _ _ (shr_additive 63) (sum_additive _ _ (shr_additive 62) (shr_additive 57))

-- a word times x^7 + x^2 + x + 1, by halves
times : ℕ → ℕ
times v = (kept (v / 2 ^ 64) ⊕ past (v % 2 ^ 64)) * 2 ^ 64 ⊕ (kept (v % 2 ^ 64) ⊕ kept (past (v / 2 ^ 64)))

times-⊕ : Additive times
unfolding times
times-⊕ =
    sum_additive _ _
    (then_additive (λ v. kept (v / 2 ^ 64) ⊕ past (v % 2 ^ 64)) (λ x. x * 2 ^ 64)
    (sum_additive _ _ (then_additive _ kept hi kept-⊕) (then_additive _ past lo past-⊕)) (shl_additive 64))
    (sum_additive _ _ (then_additive _ kept lo kept-⊕) (then_additive _ kept (then_additive _ past hi past-⊕) kept-⊕))
  where
    hi : Additive (λ v. v / 2 ^ 64)
    hi = shr_additive 64

    lo : Additive (λ v. v % 2 ^ 64)
    lo = mod_additive 64

-- on x^i, computed
right : ℕ → Bool
right i = eqb (times (2 ^ i)) (reduction ⊗ 2 ^ i)

basis : T (all_below 128 right)
unfolding right times kept past ◌⊗◌ mul_bits xtime reduction sel ◌⊕◌
basis = tt

times-is : (v : ℕ) → v < 2 ^ 128 → times v ≡ reduction ⊗ v
unfolding right
times-is v h = ext 128 times (◌⊗◌ reduction) times-⊕ (⊗-⊕ reduction) (λ i k. eqb→eq (times (2 ^ i)) (reduction ⊗ 2 ^ i) (below 128 right basis i k)) v h

kept-lt : (h : ℕ) → h < 2 ^ 64 → kept h < 2 ^ 64
unfolding kept
kept-lt h l =
    ⊕-lt 64 h _ l (⊕-lt 64 (h * 2 % 2 ^ 64) _ (mod-lt (h * 2) (pow_pos 64))
    (⊕-lt 64 (h * 4 % 2 ^ 64) _ (mod-lt (h * 4) (pow_pos 64)) (mod-lt (h * 128) (pow_pos 64))))

past-lt : (h : ℕ) → h < 2 ^ 64 → past h < 2 ^ 64
unfolding past
past-lt h l = ⊕-lt 64 (h / 2 ^ 63) _ (omega arith) (⊕-lt 64 (h / 2 ^ 62) (h / 2 ^ 57) (omega arith) (omega arith))

-- as code does it: the high word's product added to the low word
pub reduced : (lh ll hh hl : ℕ) → lh < 2 ^ 64 → ll < 2 ^ 64 → hh < 2 ^ 64 → hl < 2 ^ 64
    → joined (lh ⊕ (kept hh ⊕ past hl)) (ll ⊕ (kept hl ⊕ kept (past hh))) ≡ red (joined hh hl * 2 ^ 128 + joined lh ll)
unfolding times red
reduced lh ll hh hl hlh hll hhh hhl =
    sym (⊕-block 64 lh (kept hh ⊕ past hl) ll (kept hl ⊕ kept (past hh)) hll small)
    ∙ ap (λ (x : ℕ). joined lh ll ⊕ x)
    (sym (⊕-parts (kept hh ⊕ past hl) 64 (kept hl ⊕ kept (past hh)) small)
    ∙ ap₂ (λ (p q : ℕ). (kept p ⊕ past q) * 2 ^ 64 ⊕ (kept q ⊕ kept (past p))) (sym (high hh 64 hhl)) (sym (low hh 64 hhl))
    ∙ times-is (joined hh hl) (joined-lt hh hl hhh hhl))
    ∙ ap₂ (λ (p q : ℕ). p ⊕ reduction ⊗ q) (sym (low (joined hh hl) 128 (joined-lt lh ll hlh hll))) (sym (high (joined hh hl) 128 (joined-lt lh ll hlh hll)))
  where
    small : kept hl ⊕ kept (past hh) < 2 ^ 64
    small = ⊕-lt 64 (kept hl) (kept (past hh)) (kept-lt hl hhl) (kept-lt (past hh) (past-lt hh hhh))
