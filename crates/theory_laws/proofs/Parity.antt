-- Even and odd places: every v is w * 2 or w * 2 + 1. Halves, low bits, and the bits of a power of two.
use mathlib.Core.Path.{◌≡◌, refl, sym, ap, ◌∙◌, subst}
use Prim.Native.Nat.{ℕ, zero, suc, ◌+◌, ◌*◌, ◌/◌, ◌%◌, ◌^◌, ◌<◌}
use mathlib.Core.Logic.{◌≢◌}
use native.Mathlib.Nat.{div-one, zero-div, pow-succ', div-div-eq-div-mul}
use native.Mathlib.Numerals.{add-one}
use lib.Pow.{field, mod-mod-pow, mod-pow-add}
use native.Mathlib.Omega.{arith}

pub even-half : (w : ℕ) → w * 2 / 2 ≡ w
even-half w = omega arith

pub even-bit : (w : ℕ) → w * 2 % 2 ≡ 0
even-bit w = omega arith

pub odd-half : (w : ℕ) → (w * 2 + 1) / 2 ≡ w
odd-half w = omega arith

pub odd-bit : (w : ℕ) → (w * 2 + 1) % 2 ≡ 1
odd-bit w = omega arith

-- the place made of a half w and the low bit of v
pub place-half : (w v : ℕ) → (w * 2 + v % 2) / 2 ≡ w
place-half w v = omega arith

pub place-bit : (w v : ℕ) → (w * 2 + v % 2) % 2 ≡ v % 2
place-bit w v = omega arith

-- `simp parity` computes halves and low bits of w * 2 and w * 2 + 1
pub ruleset parity = (even-half, even-bit, odd-half, odd-bit)

-- the two kinds of place
pub data Parity : ℕ → Type 0 where
  even : (w : ℕ) → Parity (w * 2)
  odd : (w : ℕ) → Parity (w * 2 + 1)

split2 : (v b : ℕ) → v % 2 ≡ b → b < 2 → Parity v
split2 v zero e h =
    let p : v / 2 * 2 ≡ v = omega arith in
    subst Parity p (even (v / 2))
split2 v (suc zero) e h =
    let p : v / 2 * 2 + 1 ≡ v = omega arith in
    subst Parity p (odd (v / 2))
split2 v (suc (suc b)) e h = absurd (omega arith)

pub parity_of : (v : ℕ) → Parity v
parity_of v = split2 v (v % 2) refl (omega arith)

-- what holds at the even places and at the odd ones holds at every place
pub by-parity {ℓ} : (P : ℕ → Type ℓ) → ((w : ℕ) → P (w * 2)) → ((w : ℕ) → P (w * 2 + 1)) → (v : ℕ) → P v
by-parity P e o v = go v (parity_of v)
  where
    go : (u : ℕ) → Parity u → P u
    go u (even w) = e w
    go u (odd w) = o w

pub low_bit : (v n : ℕ) → v % 2 ^ suc n % 2 ≡ v % 2
low_bit v n = rw add-one at (mod-mod-pow v n 1)

pub low_half : (v n : ℕ) → v % 2 ^ suc n / 2 ≡ v / 2 % 2 ^ n
low_half v n = rw add-one at (field v n 1)

pub high_half : (v n : ℕ) → v / 2 / 2 ^ n ≡ v / 2 ^ suc n
high_half v n = div-div-eq-div-mul v 2 (2 ^ n) ∙ ap (λ x. v / x) (sym (pow-succ' 2 n))

pub mod-double : (v n : ℕ) → v % 2 ^ suc n ≡ (v / 2 % 2 ^ n) * 2 + v % 2
mod-double v n = rw add-one at (mod-pow-add v n 1)

-- ---- the bits of a power of two

pub bit-same : (b : ℕ) → 2 ^ b / 2 ^ b % 2 ≡ 1
bit-same zero = refl
bit-same (suc b) = ap (λ x. x % 2) (sym (high_half (2 ^ suc b) b) ∙ ap (λ x. x / 2 ^ b) (omega arith)) ∙ bit-same b

pub bit-other : (i b : ℕ) → i ≢ b → 2 ^ b / 2 ^ i % 2 ≡ 0
bit-other zero zero h = absurd (h refl)
bit-other zero (suc b) h = rw (div-one (2 ^ suc b)) (omega arith)
bit-other (suc i) zero h = ap (λ x. x % 2) (sym (high_half 1 i) ∙ ap (λ x. x / 2 ^ i) {x = 1 / 2} {y = 0} refl ∙ zero-div (2 ^ i))
bit-other (suc i) (suc b) h =
    let half : 2 ^ suc b / 2 ≡ 2 ^ b = omega arith in
    ap (λ x. x % 2) (sym (high_half (2 ^ suc b) i) ∙ ap (λ x. x / 2 ^ i) half) ∙ bit-other i b (λ e. h (ap suc e))
