-- Squaring is additive: the bits spread apart, each with a zero above it, and reduced. `sqFast` computes it that way.
use mathlib.Core.Path.{◌≡◌, sym, ap, ap₂, ◌∙◌}
use mathlib.Core.Bool.{Bool}
use Prim.Native.Nat.{ℕ, zero, suc, ◌*◌, ◌/◌, ◌%◌, ◌^◌, ◌<◌}
use lib.Pow.{pow-lt}
use lib.Dec.{T, eqb, eqb→eq}
use Rattle.theory_laws.specs.Xor.{◌⊕◌, bit, sel}
use Rattle.theory_laws.proofs.Xor.{⊕_self, ⊕-mod, ⊕-shr, ⊕-shl, ⊕-half, ⊕-odd, ⊕_swap}
use Rattle.theory_laws.proofs.Linear.{Additive, ext, all_below, below, sum_additive}
use Rattle.theory_field.specs.Field.{reduction, xtime, ◌⊗◌, sq}
use Rattle.theory_field.specs.LongProduct.{long}
use Rattle.theory_field.specs.Spread.{spread}
use Rattle.theory_field.proofs.Product.{times, ⊗-pow, ⊗-lt, ring}
use Rattle.theory_field.proofs.LongProduct.{⊕-long}

pub sq-lt : (v : ℕ) → sq v < 2 ^ 128
unfolding sq
sq-lt v = ⊗-lt v v

pub sq-⊕ : Additive sq
unfolding sq
sq-⊕ a b = simp ring

pub sq-⊗ : (a b : ℕ) → sq (a ⊗ b) ≡ sq a ⊗ sq b
unfolding sq
sq-⊗ a b = simp ring

-- ---- a square that computes fast

-- h times x^7 + x^2 + x + 1
unfoldable pub by_reduction : ℕ → ℕ
by_reduction h = long 8 h reduction

-- the bits from 128 on, taken off and added below
unfoldable pub reduce_once : ℕ → ℕ
reduce_once w = by_reduction (w / 2 ^ 128) ⊕ w % 2 ^ 128

unfoldable pub sq_fast : ℕ → ℕ
sq_fast v = reduce_once (reduce_once (spread 128 v))

pub spread-⊕ : (n : ℕ) → Additive (spread n)
unfolding spread
spread-⊕ zero a b = sym (⊕_self 0)
spread-⊕ (suc n) a b =
    ap₂ ◌⊕◌ (⊕-odd a b)
    (ap (λ (x : ℕ). x * 2 ^ 2) (ap (spread n) (⊕-half a b) ∙ spread-⊕ n (a / 2) (b / 2)) ∙ sym (⊕-shl 2 (spread n (a / 2)) (spread n (b / 2))))
    ∙ ⊕_swap (a % 2) (b % 2) (spread n (a / 2) * 2 ^ 2) (spread n (b / 2) * 2 ^ 2)

by_reduction-⊕ : Additive by_reduction
unfolding by_reduction
by_reduction-⊕ a b = ⊕-long 8 a b reduction

reduce_once-⊕ : Additive reduce_once
unfolding reduce_once
reduce_once-⊕ =
    sum_additive (λ w. by_reduction (w / 2 ^ 128)) (λ w. w % 2 ^ 128)
    (λ a b. ap by_reduction (⊕-shr a b 128) ∙ by_reduction-⊕ (a / 2 ^ 128) (b / 2 ^ 128))
    (λ a b. ⊕-mod a b 128)

pub sq_fast-⊕ : Additive sq_fast
unfolding sq_fast
sq_fast-⊕ a b =
    ap (λ (x : ℕ). reduce_once (reduce_once x)) (spread-⊕ 128 a b) ∙ ap reduce_once (reduce_once-⊕ (spread 128 a) (spread 128 b))
    ∙ reduce_once-⊕ (reduce_once (spread 128 a)) (reduce_once (spread 128 b))

-- on x^i, computed
right : ℕ → Bool
right i = eqb (sq_fast (2 ^ i)) (times i (2 ^ i))

basis : T (all_below 128 right)
unfolding right sq_fast reduce_once by_reduction long spread xtime reduction sel ◌⊕◌
basis = tt

pub sq-fast : (v : ℕ) → v < 2 ^ 128 → sq v ≡ sq_fast v
unfolding sq right
sq-fast v h =
    ext 128 sq sq_fast sq-⊕ sq_fast-⊕
    (λ i k. ⊗-pow i (2 ^ i) k (pow-lt k) ∙ sym (eqb→eq (sq_fast (2 ^ i)) (times i (2 ^ i)) (below 128 right basis i k))) v h
