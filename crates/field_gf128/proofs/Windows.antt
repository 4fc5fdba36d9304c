-- The carry-less product of two halves as code makes it: by windows of four bits, and the three highest bits by themselves.
-- Rests on the laws of the long product.
use mathlib.Core.Path.{◌≡◌, refl, sym, ap, ap₂, ◌∙◌, subst}
use mathlib.Core.List.{List, [], ◌∷◌}
use Prim.Native.Nat.{ℕ, zero, suc, ◌+◌, ◌-◌, ◌*◌, ◌/◌, ◌%◌, ◌^◌, ◌<◌}
use native.Mathlib.Nat.{mod-lt, zero-lt-suc, div-add-mod', one-mul, zero-mul}
use native.Mathlib.Omega.{arith}
use lib.Pow.{pow_pos, pow-add, split, shl-shr, shr-shr, shr_lt, high}
use lib.Bits.{bit_or, or_shifted}
use Rattle.theory_laws.specs.Xor.{◌⊕◌, bit, sel}
use Rattle.theory_laws.specs.Table.{tab}
use Rattle.theory_laws.proofs.Xor.{⊕_comm, ⊕-zero, zero-⊕, ⊕_assoc, ⊕-parts, ⊕-lt, ⊕-block, sel-bit}
use Rattle.theory_laws.proofs.Linear.{Additive, ext, sum_additive, then_additive, shl_additive}
use Rattle.theory_field.specs.LongProduct.{long}
use Rattle.theory_field.specs.Words.{joined}
use Rattle.theory_field.proofs.LongProduct.{long-⊕, ⊕-long, long-split, long-shl, long-pow}

-- ---- windows of four bits

-- the sixteen multiples as code writes them
pub sixteen : (a b c d : ℕ) → b ≡ 2 * a → c ≡ 2 * (2 * a) → d ≡ 2 * (2 * (2 * a))
    → ◌≡◌ {A = List ℕ}
    (0 ∷ a ∷ b ∷ (a ⊕ b) ∷ c ∷ (a ⊕ c) ∷ (b ⊕ c) ∷ ((a ⊕ b) ⊕ c)
    ∷ d ∷ (a ⊕ d) ∷ (b ⊕ d) ∷ ((a ⊕ b) ⊕ d) ∷ (c ⊕ d) ∷ (a ⊕ (c ⊕ d)) ∷ (b ⊕ (c ⊕ d)) ∷ ((a ⊕ b) ⊕ (c ⊕ d)) ∷ [])
    (tab 16 (long 4 a))
unfolding tab long sel
sixteen a b c d p q r = rw (p, q, r) (simp (⊕_assoc, ⊕-zero, zero-⊕))

pub shl4_halves : (h l : ℕ) → h < 2 ^ 60 → l < 2 ^ 64
    → joined (bit_or (h * 16 % 2 ^ 64) (l / 2 ^ 60)) (l * 16 % 2 ^ 64) ≡ joined h l * 16
shl4_halves h l hh hl =
    ap (λ (x : ℕ). joined (bit_or x (l / 2 ^ 60)) (l * 16 % 2 ^ 64)) e
    ∙ ap (λ (x : ℕ). joined x (l * 16 % 2 ^ 64)) (or_shifted h 4 (l / 2 ^ 60) (omega arith)) ∙ omega arith
  where
    e : h * 16 % 2 ^ 64 ≡ h * 16
    e = omega arith

-- the high half of a short number
pub high_lt : (k h l : ℕ) → l < 2 ^ 64 → joined h l < 2 ^ (k + 64) → h < 2 ^ k
high_lt k h l hl b = subst (λ (x : ℕ). x < 2 ^ k) (high h 64 hl) (shr_lt k 64 b)

-- one window more
pub window : (a b j : ℕ) → j < 16
    → long (4 * (j + 1)) a (b / 2 ^ (64 - 4 * (j + 1))) ≡ long (4 * j) a (b / 2 ^ (64 - 4 * j)) * 16 ⊕ long 4 a (b / 2 ^ (60 - 4 * j) % 16)
window a b j h =
    ap₂ (λ (x y : ℕ). long x a y) e (ap (λ (x : ℕ). b / 2 ^ x) f ∙ sym (div-add-mod' v 16))
    ∙ long-split 4 (4 * j) a (v / 16) (v % 16) (mod-lt v (zero-lt-suc 15))
    ∙ ⊕_comm (long 4 a (v % 16)) (long (4 * j) (a * 16) (v / 16))
    ∙ ap (λ (x : ℕ). x ⊕ long 4 a (v % 16))
    (long-shl (4 * j) 4 a (v / 16) ∙ ap (λ (x : ℕ). long (4 * j) a x * 16) (shr-shr b (60 - 4 * j) 4 ∙ ap (λ (x : ℕ). b / 2 ^ x) g))
  where
    v : ℕ
    v = b / 2 ^ (60 - 4 * j)

    e : 4 * (j + 1) ≡ 4 + 4 * j
    e = omega arith

    f : 64 - 4 * (j + 1) ≡ 60 - 4 * j
    f = omega arith

    g : 60 - 4 * j + 4 ≡ 64 - 4 * j
    g = omega arith

-- ---- the three highest bits

long-one : (b : ℕ) → b < 2 ^ 64 → long 64 1 b ≡ b
long-one b h = ext 64 (long 64 1) (λ x. x) (long-⊕ 64 1) (λ x y. refl) (λ i k. long-pow 64 i 1 k ∙ one-mul (2 ^ i)) b h

-- x^k times b
long-x : (k b : ℕ) → b < 2 ^ 64 → long 64 (2 ^ k) b ≡ b * 2 ^ k
long-x k b h =
    ap (λ (x : ℕ). long 64 x b) (sym (one-mul (2 ^ k))) ∙ long-shl 64 k 1 b ∙ ap (λ (x : ℕ). x * 2 ^ k) (long-one b h)

-- the three bits of u as the coefficients of x^61, x^62 and x^63
bits : ℕ → ℕ → ℕ
bits b u = sel (bit 0 u) (b * 2 ^ 61) ⊕ (sel (bit 1 u) (b * 2 ^ 62) ⊕ sel (bit 2 u) (b * 2 ^ 63))

bits-⊕ : (b : ℕ) → Additive (bits b)
unfolding bits
bits-⊕ b = sum_additive _ _ (chosen 0 (b * 2 ^ 61)) (sum_additive _ _ (chosen 1 (b * 2 ^ 62)) (chosen 2 (b * 2 ^ 63)))
  where
    chosen : (i x : ℕ) → Additive (λ v. sel (bit i v) x)
    chosen i x v w = sel-bit i v w x

bits-pow : (b i : ℕ) → i < 3 → b * 2 ^ (i + 61) ≡ bits b (2 ^ i)
unfolding bits sel
bits-pow b zero h = simp ⊕-zero
bits-pow b (suc zero) h = simp (⊕-zero, zero-⊕)
bits-pow b (suc (suc zero)) h = simp zero-⊕
bits-pow b (suc (suc (suc i))) h = absurd (omega arith)

three : (u b : ℕ) → u < 2 ^ 3 → b < 2 ^ 64 → long 64 (u * 2 ^ 61) b ≡ bits b u
three u b hu hb =
    ext 3 (λ x. long 64 (x * 2 ^ 61) b) (bits b)
    (then_additive (λ x. x * 2 ^ 61) (λ x. long 64 x b) (shl_additive 61) (λ x y. ⊕-long 64 x y b))
    (bits-⊕ b)
    (λ i k. ap (λ (x : ℕ). long 64 x b) (sym (pow-add 2 i 61)) ∙ long-x (i + 61) b hb ∙ bits-pow b i k) u hu

-- a half moved up by k places, in two halves
shl-halves : (k m b : ℕ) → k + m ≡ 64 → joined (b / 2 ^ m) (b * 2 ^ k % 2 ^ 64) ≡ b * 2 ^ k
shl-halves k m b e =
    ap (λ (x : ℕ). joined x (b * 2 ^ k % 2 ^ 64))
    (ap (λ (x : ℕ). x / 2 ^ m) (sym (shl-shr b k)) ∙ shr-shr (b * 2 ^ k) k m ∙ ap (λ (n : ℕ). b * 2 ^ k / 2 ^ n) e)
    ∙ split (b * 2 ^ k) 64

-- a bit times each half
bit-halves : (c h l : ℕ) → c < 2 → joined (c * h) (c * l) ≡ sel c (joined h l)
unfolding sel
bit-halves zero h l k = ap₂ (λ (x y : ℕ). joined x y) (zero-mul h) (zero-mul l)
bit-halves (suc zero) h l k = ap₂ (λ (x y : ℕ). joined x y) (one-mul h) (one-mul l)
bit-halves (suc (suc c)) h l k = absurd (omega arith)

pub bit-times-lt : (c x k : ℕ) → c < 2 → x < 2 ^ k → c * x < 2 ^ k
bit-times-lt zero x k h l = subst (λ (y : ℕ). y < 2 ^ k) (sym (zero-mul x)) (pow_pos k)
bit-times-lt (suc zero) x k h l = subst (λ (y : ℕ). y < 2 ^ k) (sym (one-mul x)) l
bit-times-lt (suc (suc c)) x k h l = absurd (omega arith)

-- the three highest bits as code multiplies by them
pub top-halves : (x y z a b : ℕ) → x ≡ bit 61 a → y ≡ bit 62 a → z ≡ bit 63 a → a < 2 ^ 64 → b < 2 ^ 64
    → joined
    (x * (b / 2 ^ 3) ⊕ (y * (b / 2 ^ 2) ⊕ z * (b / 2 ^ 1)))
    (x * (b * 2 ^ 61 % 2 ^ 64) ⊕ (y * (b * 2 ^ 62 % 2 ^ 64) ⊕ z * (b * 2 ^ 63 % 2 ^ 64)))
    ≡ long 64 (a / 2 ^ 61 * 2 ^ 61) b
unfolding bits
top-halves x y z a b ex ey ez ha hb =
    sym
    (three (a / 2 ^ 61) b (omega arith) hb
    ∙ ap₂ ◌⊕◌ (term 0 61 3 x ex refl) (ap₂ ◌⊕◌ (term 1 62 2 y ey refl) (term 2 63 1 z ez refl))
    ∙ ap (λ (w : ℕ). joined (x * (b / 2 ^ 3)) (x * (b * 2 ^ 61 % 2 ^ 64)) ⊕ w)
    (⊕-block 64 (y * (b / 2 ^ 2)) (z * (b / 2 ^ 1)) (y * (b * 2 ^ 62 % 2 ^ 64)) (z * (b * 2 ^ 63 % 2 ^ 64)) (small 62 y ey) (small 63 z ez))
    ∙ ⊕-block 64 (x * (b / 2 ^ 3)) (y * (b / 2 ^ 2) ⊕ z * (b / 2 ^ 1)) (x * (b * 2 ^ 61 % 2 ^ 64)) (y * (b * 2 ^ 62 % 2 ^ 64) ⊕ z * (b * 2 ^ 63 % 2 ^ 64))
    (small 61 x ex) (⊕-lt 64 (y * (b * 2 ^ 62 % 2 ^ 64)) (z * (b * 2 ^ 63 % 2 ^ 64)) (small 62 y ey) (small 63 z ez)))
  where
    is-bit : (k c : ℕ) → c ≡ bit k a → c < 2
    is-bit k c e = rw e (mod-lt (a / 2 ^ k) (zero-lt-suc 1))

    small : (k c : ℕ) → c ≡ bit k a → c * (b * 2 ^ k % 2 ^ 64) < 2 ^ 64
    small k c e = bit-times-lt c (b * 2 ^ k % 2 ^ 64) 64 (is-bit k c e) (mod-lt (b * 2 ^ k) (pow_pos 64))

    term : (i k m c : ℕ) → c ≡ bit (61 + i) a → k + m ≡ 64 → sel (bit i (a / 2 ^ 61)) (b * 2 ^ k) ≡ joined (c * (b / 2 ^ m)) (c * (b * 2 ^ k % 2 ^ 64))
    term i k m c e f =
        ap₂ (λ (d w : ℕ). sel d w) (ap (λ (w : ℕ). w % 2) (shr-shr a 61 i) ∙ sym e) (sym (shl-halves k m b f))
        ∙ sym (bit-halves c (b / 2 ^ m) (b * 2 ^ k % 2 ^ 64) (is-bit (61 + i) c e))

-- with the low bits, the whole product
pub top_and_low : (a b : ℕ) → long 64 (a % 2 ^ 61) b ⊕ long 64 (a / 2 ^ 61 * 2 ^ 61) b ≡ long 64 a b
top_and_low a b =
    ⊕_comm (long 64 (a % 2 ^ 61) b) (long 64 (a / 2 ^ 61 * 2 ^ 61) b)
    ∙ sym (⊕-long 64 (a / 2 ^ 61 * 2 ^ 61) (a % 2 ^ 61) b)
    ∙ ap (λ (x : ℕ). long 64 x b) (⊕-parts (a / 2 ^ 61) 61 (a % 2 ^ 61) (mod-lt a (pow_pos 61)) ∙ split a 61)
