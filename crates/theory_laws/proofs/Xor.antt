-- Exclusive or on all naturals: a group in which every element is its own inverse, bit by bit; shifts, parts and masks are
-- additive, and so is a choice by a bit. Rests on lib.Bits.
use mathlib.Core.Path.{◌≡◌, refl, sym, ap, ap₂, ◌∙◌}
use mathlib.Core.Logic.{◌⊎◌, inl, inr}
use Prim.Native.Nat.{ℕ, zero, suc, ◌+◌, ◌*◌, ◌/◌, ◌%◌, ◌^◌, ◌<◌, min}
use native.Mathlib.Nat.{mod-lt, zero-lt-suc, add-zero, mul_comm, zero-mul, one-mul, lt_of_le_of_lt, min-le_left}
use native.Mathlib.Omega.{arith}
use lib.Arith.{bin_ind, digits_mod}
use lib.Pow.{pow_pos}
use lib.Bits.{bit_and, and_shr, and_step, and_zero_r}
use lib.Bits.{xor_zero_l, xor_zero_r, xor_comm, xor_self, xor_lt, xor_block, xor_shr, xor_mod, xor_shifted}
use Rattle.theory_laws.specs.Xor.{◌⊕◌, bit, sel}

-- ---- bits

pub bit-cases : (x : ℕ) → x < 2 → (x ≡ 0) ⊎ (x ≡ 1)
bit-cases zero h = inl refl
bit-cases (suc zero) h = inr refl
bit-cases (suc (suc n)) h = absurd (omega arith)

pub odd-cases : (x : ℕ) → (x % 2 ≡ 0) ⊎ (x % 2 ≡ 1)
odd-cases x = bit-cases (x % 2) (mod-lt x (zero-lt-suc 1))

-- ---- xor

pub zero-⊕ : (a : ℕ) → 0 ⊕ a ≡ a
unfolding ◌⊕◌
zero-⊕ a = xor_zero_l a

pub ⊕-zero : (a : ℕ) → a ⊕ 0 ≡ a
unfolding ◌⊕◌
⊕-zero a = xor_zero_r a

pub ⊕_comm : (a b : ℕ) → a ⊕ b ≡ b ⊕ a
unfolding ◌⊕◌
⊕_comm a b = xor_comm a b

pub ⊕_self : (a : ℕ) → a ⊕ a ≡ 0
unfolding ◌⊕◌
⊕_self a = xor_self a

pub ⊕-lt : (k a b : ℕ) → a < 2 ^ k → b < 2 ^ k → a ⊕ b < 2 ^ k
unfolding ◌⊕◌
⊕-lt k a b ha hb = xor_lt k a b ha hb

pub ⊕-shr : (a b k : ℕ) → (a ⊕ b) / 2 ^ k ≡ a / 2 ^ k ⊕ b / 2 ^ k
unfolding ◌⊕◌
⊕-shr a b k = xor_shr a b k

pub ⊕-mod : (a b k : ℕ) → (a ⊕ b) % 2 ^ k ≡ a % 2 ^ k ⊕ b % 2 ^ k
unfolding ◌⊕◌
⊕-mod a b k = xor_mod a b k

pub ⊕-block : (k a b r s : ℕ) → r < 2 ^ k → s < 2 ^ k → (a * 2 ^ k + r) ⊕ (b * 2 ^ k + s) ≡ (a ⊕ b) * 2 ^ k + (r ⊕ s)
unfolding ◌⊕◌
⊕-block k a b r s hr hs = xor_block k a b r s hr hs

pub ⊕-shl : (k a b : ℕ) → a * 2 ^ k ⊕ b * 2 ^ k ≡ (a ⊕ b) * 2 ^ k
⊕-shl k a b =
    ap₂ ◌⊕◌ (sym (add-zero (a * 2 ^ k))) (sym (add-zero (b * 2 ^ k)))
    ∙ ⊕-block k a b 0 0 (pow_pos k) (pow_pos k)
    ∙ ap (λ (x : ℕ). (a ⊕ b) * 2 ^ k + x) (⊕_self 0) ∙ add-zero ((a ⊕ b) * 2 ^ k)

-- a high part and a low part
pub ⊕-parts : (a k r : ℕ) → r < 2 ^ k → a * 2 ^ k ⊕ r ≡ a * 2 ^ k + r
unfolding ◌⊕◌
⊕-parts a k r h = xor_shifted a k r h

pub ⊕-half : (a b : ℕ) → (a ⊕ b) / 2 ≡ a / 2 ⊕ b / 2
⊕-half a b = ⊕-shr a b 1

pub ⊕-odd : (a b : ℕ) → (a ⊕ b) % 2 ≡ a % 2 ⊕ b % 2
⊕-odd a b = ⊕-mod a b 1

pub ⊕_dbl : (a b : ℕ) → 2 * (a ⊕ b) ≡ 2 * a ⊕ 2 * b
⊕_dbl a b = mul_comm 2 (a ⊕ b) ∙ sym (⊕-shl 1 a b) ∙ ap₂ ◌⊕◌ (mul_comm a 2) (mul_comm b 2)

bit_assoc : (x y z : ℕ) → (x ≡ 0) ⊎ (x ≡ 1) → (y ≡ 0) ⊎ (y ≡ 1) → (z ≡ 0) ⊎ (z ≡ 1) → (x ⊕ y) ⊕ z ≡ x ⊕ (y ⊕ z)
unfolding ◌⊕◌
bit_assoc x y z (inl p) q r = rw p
bit_assoc x y z (inr p) (inl q) r = rw (p, q)
bit_assoc x y z (inr p) (inr q) (inl r) = rw (p, q, r)
bit_assoc x y z (inr p) (inr q) (inr r) = rw (p, q, r)

-- two numbers are equal when their halves and their low bits are
pub by_digits : (a b : ℕ) → a / 2 ≡ b / 2 → a % 2 ≡ b % 2 → a ≡ b
by_digits a b p q = omega arith

pub ⊕_assoc : (a b c : ℕ) → (a ⊕ b) ⊕ c ≡ a ⊕ (b ⊕ c)
⊕_assoc =
    bin_ind (λ (a : ℕ). (b c : ℕ) → (a ⊕ b) ⊕ c ≡ a ⊕ (b ⊕ c)) (λ b c. simp zero-⊕)
    (λ a ih b c. by_digits ((a ⊕ b) ⊕ c) (a ⊕ (b ⊕ c))
    (simp ⊕-half (ih (b / 2) (c / 2)))
    (simp ⊕-odd (bit_assoc (a % 2) (b % 2) (c % 2) (odd-cases a) (odd-cases b) (odd-cases c))))

pub ⊕-left_comm : (a b c : ℕ) → a ⊕ (b ⊕ c) ≡ b ⊕ (a ⊕ c)
⊕-left_comm a b c = sym (⊕_assoc a b c) ∙ ap (λ (x : ℕ). x ⊕ c) (⊕_comm a b) ∙ ⊕_assoc b a c

pub ⊕_swap : (a b c d : ℕ) → (a ⊕ b) ⊕ (c ⊕ d) ≡ (a ⊕ c) ⊕ (b ⊕ d)
⊕_swap a b c d = simp (⊕_assoc, ⊕-left_comm)

pub ⊕-cancel : (a b : ℕ) → a ⊕ (a ⊕ b) ≡ b
⊕-cancel a b = sym (⊕_assoc a a b) ∙ simp (⊕_self, zero-⊕)

pub ⊕_inj : (a : ℕ) {b c : ℕ} → a ⊕ b ≡ a ⊕ c → b ≡ c
⊕_inj a {b} {c} e = sym (⊕-cancel a b) ∙ ap (λ (x : ℕ). a ⊕ x) e ∙ ⊕-cancel a c

pub ⊕-eq : (a b : ℕ) → a ⊕ b ≡ 0 → a ≡ b
⊕-eq a b e = sym (⊕-zero a) ∙ ap (λ (x : ℕ). a ⊕ x) (sym e) ∙ ⊕-cancel a b

-- ---- a value chosen by a bit

pub sel-zero : (b : ℕ) → sel b 0 ≡ 0
unfolding sel
sel-zero zero = refl
sel-zero (suc b) = refl

-- additive in the value
pub sel-⊕ : (b x y : ℕ) → sel b (x ⊕ y) ≡ sel b x ⊕ sel b y
unfolding sel
sel-⊕ zero x y = sym (⊕_self 0)
sel-⊕ (suc b) x y = refl

sel-cases : (p q x : ℕ) → (p ≡ 0) ⊎ (p ≡ 1) → (q ≡ 0) ⊎ (q ≡ 1) → sel (p ⊕ q) x ≡ sel p x ⊕ sel q x
unfolding sel ◌⊕◌
sel-cases p q x (inl e) (inl f) = rw (e, f)
sel-cases p q x (inl e) (inr f) = rw (e, f) (sym (zero-⊕ x))
sel-cases p q x (inr e) (inl f) = rw (e, f) (sym (⊕-zero x))
sel-cases p q x (inr e) (inr f) = rw (e, f) (sym (⊕_self x))

-- additive in the bit
pub sel-odd : (a b x : ℕ) → sel ((a ⊕ b) % 2) x ≡ sel (a % 2) x ⊕ sel (b % 2) x
sel-odd a b x = ap (λ y. sel y x) (⊕-odd a b) ∙ sel-cases (a % 2) (b % 2) x (odd-cases a) (odd-cases b)

pub sel-bit : (i a b x : ℕ) → sel (bit i (a ⊕ b)) x ≡ sel (bit i a) x ⊕ sel (bit i b) x
sel-bit i a b x = ap (λ y. sel (y % 2) x) (⊕-shr a b i) ∙ sel-odd (a / 2 ^ i) (b / 2 ^ i) x

pub sel_swap : (a b x : ℕ) → sel a (sel b x) ≡ sel b (sel a x)
unfolding sel
sel_swap zero b x = sym (sel-zero b)
sel_swap (suc a) b x = refl

-- as the product that code computes
pub sel-times : (b x : ℕ) → b < 2 → sel b x ≡ b * x
unfolding sel
sel-times zero x h = sym (zero-mul x)
sel-times (suc zero) x h = sym (one-mul x)
sel-times (suc (suc b)) x h = absurd (omega arith)

pub sel-lt : (b k x : ℕ) → x < 2 ^ k → sel b x < 2 ^ k
unfolding sel
sel-lt zero k x h = pow_pos k
sel-lt (suc b) k x h = h

-- bit i of a sum
pub ⊕-bit : (a b i : ℕ) → bit i (a ⊕ b) ≡ bit i a ⊕ bit i b
⊕-bit a b i = simp (⊕-shr, ⊕-odd)

-- ---- a mask is additive
mask_bit : (x y z : ℕ) → (x ≡ 0) ⊎ (x ≡ 1) → (y ≡ 0) ⊎ (y ≡ 1) → (z ≡ 0) ⊎ (z ≡ 1) → min (x ⊕ y) z ≡ min x z ⊕ min y z
unfolding ◌⊕◌
mask_bit x y z (inl p) (inl q) (inl r) = rw (p, q, r)
mask_bit x y z (inl p) (inl q) (inr r) = rw (p, q, r)
mask_bit x y z (inl p) (inr q) (inl r) = rw (p, q, r)
mask_bit x y z (inl p) (inr q) (inr r) = rw (p, q, r)
mask_bit x y z (inr p) (inl q) (inl r) = rw (p, q, r)
mask_bit x y z (inr p) (inl q) (inr r) = rw (p, q, r)
mask_bit x y z (inr p) (inr q) (inl r) = rw (p, q, r)
mask_bit x y z (inr p) (inr q) (inr r) = rw (p, q, r)

and_half : (a m : ℕ) → bit_and a m / 2 ≡ bit_and (a / 2) (m / 2)
and_half a m = and_shr a m 1

and_odd : (a m : ℕ) → bit_and a m % 2 ≡ min (a % 2) (m % 2)
and_odd a m =
    let digit = lt_of_le_of_lt (min-le_left (a % 2) (m % 2)) (mod-lt a (zero-lt-suc 1)) in
    ap (λ (x : ℕ). x % 2) (and_step a m) ∙ digits_mod (bit_and (a / 2) (m / 2)) digit

pub and_⊕ : (a b m : ℕ) → bit_and (a ⊕ b) m ≡ bit_and a m ⊕ bit_and b m
and_⊕ a b m = go m a b
  where
    go : (m a b : ℕ) → bit_and (a ⊕ b) m ≡ bit_and a m ⊕ bit_and b m
    go =
        bin_ind (λ (m : ℕ). (a b : ℕ) → bit_and (a ⊕ b) m ≡ bit_and a m ⊕ bit_and b m)
        (λ a b. and_zero_r (a ⊕ b) ∙ sym (ap₂ ◌⊕◌ (and_zero_r a) (and_zero_r b) ∙ ⊕_self 0))
        (λ m ih a b. by_digits (bit_and (a ⊕ b) m) (bit_and a m ⊕ bit_and b m)
        (simp (and_half, ⊕-half) (ih (a / 2) (b / 2)))
        (simp (and_odd, ⊕-odd) (mask_bit (a % 2) (b % 2) (m % 2) (odd-cases a) (odd-cases b) (odd-cases m))))
