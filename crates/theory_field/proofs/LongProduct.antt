-- The product of polynomials before it is reduced: additive on both sides, cut into halves (Karatsuba), and reduced to `◌⊗◌`.
-- What code does in 64-bit halves is stated of it.
use mathlib.Core.Path.{◌≡◌, refl, sym, ap, ap₂, ◌∙◌, subst}
use mathlib.Core.Bool.{Bool}
use Prim.Native.Nat.{ℕ, zero, suc, ◌+◌, ◌-◌, ◌*◌, ◌/◌, ◌%◌, ◌^◌, ◌<◌}
use native.Mathlib.Nat.{mul_comm, mul_assoc, zero-mul, mul-one, one-mul, add_comm, zero-add, add-zero, suc-add, add-suc, pow-suc, pow-succ'}
use native.Mathlib.Nat.{zero-lt-suc, lt_of_lt_of_le, not-suc-le-zero, le_of_suc-le-suc, le-add_right, mul-mod_left, mul-div_cancel}
use native.Mathlib.Omega.{arith}
use lib.Arith.{lt-one}
use lib.Pow.{pow_pos, pow_mono, pow-add}
use lib.Bits.{block_half, block_odd}
use lib.Dec.{T, eqb, eqb→eq}
use Rattle.theory_laws.specs.Xor.{◌⊕◌, sel}
use Rattle.theory_laws.proofs.Xor.{zero-⊕, ⊕-zero, ⊕_self, ⊕_dbl, ⊕-mod, ⊕-shr, ⊕-shl, ⊕-half, ⊕_swap, ⊕-lt}
use Rattle.theory_laws.proofs.Xor.{⊕_assoc, ⊕_comm, ⊕-left_comm, ⊕-cancel, ⊕-parts, sel-⊕, sel-odd, sel-lt}
use Rattle.theory_laws.proofs.Linear.{Additive, at_zero, ext, all_below, below}
use Rattle.theory_laws.proofs.Numbers.{lt-pow}
use Rattle.theory_field.specs.Field.{reduction, xtime, mul_bits, ◌⊗◌}
use Rattle.theory_field.specs.LongProduct.{long, ◌·◌}
use Rattle.theory_field.proofs.Product.{times, times-xtime, times-times, times-one, times-⊕, ⊗-⊕, ⊗-pow}

dbl_shl : (a k : ℕ) → 2 * a * 2 ^ k ≡ a * 2 ^ suc k
dbl_shl a k = ap (λ (x : ℕ). x * 2 ^ k) (mul_comm 2 a) ∙ mul_assoc a 2 (2 ^ k) ∙ ap (λ (x : ℕ). a * x) (sym (pow-succ' 2 k))

-- ---- additive on both sides

pub long-⊕ : (n a b c : ℕ) → long n a (b ⊕ c) ≡ long n a b ⊕ long n a c
unfolding long
long-⊕ zero a b c = sym (⊕_self 0)
long-⊕ (suc n) a b c =
    ap₂ ◌⊕◌
    (sel-odd b c a)
    (ap (long n (2 * a)) (⊕-half b c) ∙ long-⊕ n (2 * a) (b / 2) (c / 2))
    ∙ ⊕_swap (sel (b % 2) a) (sel (c % 2) a) (long n (2 * a) (b / 2)) (long n (2 * a) (c / 2))

pub ⊕-long : (n a b c : ℕ) → long n (a ⊕ b) c ≡ long n a c ⊕ long n b c
unfolding long
⊕-long zero a b c = sym (⊕_self 0)
⊕-long (suc n) a b c =
    ap₂ ◌⊕◌
    (sel-⊕ (c % 2) a b)
    (ap (λ (x : ℕ). long n x (c / 2)) (⊕_dbl a b) ∙ ⊕-long n (2 * a) (2 * b) (c / 2))
    ∙ ⊕_swap (sel (c % 2) a) (sel (c % 2) b) (long n (2 * a) (c / 2)) (long n (2 * b) (c / 2))

pub long-zero : (n a : ℕ) → long n a 0 ≡ 0
long-zero n a = at_zero (long n a) (long-⊕ n a)

sel-shl : (b k a : ℕ) → sel b (a * 2 ^ k) ≡ sel b a * 2 ^ k
unfolding sel
sel-shl zero k a = sym (zero-mul (2 ^ k))
sel-shl (suc b) k a = refl

-- a shifted first factor
pub long-shl : (n k a b : ℕ) → long n (a * 2 ^ k) b ≡ long n a b * 2 ^ k
unfolding long
long-shl zero k a b = sym (zero-mul (2 ^ k))
long-shl (suc n) k a b =
    ap₂ ◌⊕◌ (sel-shl (b % 2) k a) (ap (λ (x : ℕ). long n x (b / 2)) (sym (mul_assoc 2 a (2 ^ k))) ∙ long-shl n k (2 * a) (b / 2))
    ∙ ⊕-shl k (sel (b % 2) a) (long n (2 * a) (b / 2))

-- the second factor, cut at bit m
pub long-split : (m n a c d : ℕ) → d < 2 ^ m → long (m + n) a (c * 2 ^ m + d) ≡ long m a d ⊕ long n (a * 2 ^ m) c
unfolding long
long-split zero n a c d h =
    ap₂ (λ (x y : ℕ). long x a (c * 1 + y)) (zero-add n) (lt-one h) ∙ ap (long n a) (add-zero (c * 1) ∙ mul-one c)
    ∙ sym (zero-⊕ (long n (a * 1) c) ∙ ap (λ (x : ℕ). long n x c) (mul-one a))
long-split (suc m) n a c d h =
    ap (λ (x : ℕ). long x a (c * 2 ^ suc m + d)) (suc-add m n)
    ∙ ap₂ (λ (x y : ℕ). sel x a ⊕ long (m + n) (2 * a) y) (block_odd c m d) (block_half c m d)
    ∙ ap (λ (x : ℕ). sel (d % 2) a ⊕ x) (long-split m n (2 * a) c (d / 2) (omega arith))
    ∙ sym (⊕_assoc (sel (d % 2) a) (long m (2 * a) (d / 2)) (long n (2 * a * 2 ^ m) c))
    ∙ ap (λ (x : ℕ). (sel (d % 2) a ⊕ long m (2 * a) (d / 2)) ⊕ long n x c) (dbl_shl a m)

pub long-more : (m n a d : ℕ) → d < 2 ^ m → long (m + n) a d ≡ long m a d
long-more m n a d h =
    ap (long (m + n) a) (sym (ap (λ (x : ℕ). x + d) (zero-mul (2 ^ m)) ∙ zero-add d)) ∙ long-split m n a 0 d h
    ∙ ap (λ (x : ℕ). long m a d ⊕ x) (long-zero n (a * 2 ^ m)) ∙ ⊕-zero (long m a d)

pub long-pow : (n i a : ℕ) → i < n → long n a (2 ^ i) ≡ a * 2 ^ i
unfolding long sel
long-pow zero i a h = absurd (not-suc-le-zero h)
long-pow (suc n) zero a h = ap (λ (x : ℕ). a ⊕ x) (long-zero n (2 * a)) ∙ ⊕-zero a ∙ sym (mul-one a)
long-pow (suc n) (suc i) a h =
    ap₂ (λ (x y : ℕ). sel x a ⊕ long n (2 * a) y)
    (ap (λ (x : ℕ). x % 2) (pow-suc 2 i) ∙ mul-mod_left (2 ^ i) 2)
    (ap (λ (x : ℕ). x / 2) (pow-suc 2 i) ∙ mul-div_cancel (2 ^ i) (zero-lt-suc 1))
    ∙ ap (λ (x : ℕ). 0 ⊕ x) (long-pow n i (2 * a) (le_of_suc-le-suc h)) ∙ zero-⊕ (2 * a * 2 ^ i) ∙ dbl_shl a i

pub long_lt : (n k a b : ℕ) → a < 2 ^ k → long n a b < 2 ^ (k + n)
unfolding long
long_lt zero k a b h = pow_pos (k + 0)
long_lt (suc n) k a b h =
    ⊕-lt (k + suc n) (sel (b % 2) a) (long n (2 * a) (b / 2))
    (lt_of_lt_of_le (sel-lt (b % 2) k a h) (pow_mono (le-add_right k (suc n))))
    (subst (λ (x : ℕ). long n (2 * a) (b / 2) < 2 ^ x) (suc-add k n ∙ sym (add-suc k n)) (long_lt n (suc k) (2 * a) (b / 2) (omega arith)))

-- ---- either way round

long-one : (n b : ℕ) → b < 2 ^ n → long n 1 b ≡ b
long-one n b h = ext n (long n 1) (λ x. x) (long-⊕ n 1) (λ x y. refl) (λ i k. long-pow n i 1 k ∙ one-mul (2 ^ i)) b h

-- x^i times b is b, shifted
pub pow-long : (n i b : ℕ) → b < 2 ^ n → long n (2 ^ i) b ≡ b * 2 ^ i
pow-long n i b h =
    ap (λ (x : ℕ). long n x b) (sym (one-mul (2 ^ i))) ∙ long-shl n i 1 b ∙ ap (λ (x : ℕ). x * 2 ^ i) (long-one n b h)

long_comm : (m n a b : ℕ) → a < 2 ^ m → b < 2 ^ n → long n a b ≡ long m b a
long_comm m n a b ha hb =
    ext n (long n a) (λ x. long m x a) (long-⊕ n a) (λ x y. ⊕-long m x y a) (λ i k. long-pow n i a k ∙ sym (pow-long m i a ha)) b hb

-- ---- of any two numbers: commutative, additive on both sides, and x^i times x^j is x^(i + j)

-- over any number of bits that holds b
pub ·-long : (n a b : ℕ) → b < 2 ^ n → a · b ≡ long n a b
unfolding ◌·◌
·-long n a b h = sym (long-more b n a b (lt-pow b)) ∙ ap (λ (x : ℕ). long x a b) (add_comm b n) ∙ long-more n b a b h

pub ·_comm : (a b : ℕ) → a · b ≡ b · a
unfolding ◌·◌
·_comm a b = long_comm a b a b (lt-pow a) (lt-pow b)

pub ⊕-· : (a b c : ℕ) → (a ⊕ b) · c ≡ a · c ⊕ b · c
unfolding ◌·◌
⊕-· a b c = ⊕-long c a b c

pub ·-⊕ : (a b c : ℕ) → a · (b ⊕ c) ≡ a · b ⊕ a · c
·-⊕ a b c = ·_comm a (b ⊕ c) ∙ ⊕-· b c a ∙ ap₂ ◌⊕◌ (·_comm b a) (·_comm c a)

pub pow-· : (i b : ℕ) → 2 ^ i · b ≡ b * 2 ^ i
unfolding ◌·◌
pow-· i b = pow-long b i b (lt-pow b)

pub pow-·-pow : (i j : ℕ) → 2 ^ i · 2 ^ j ≡ 2 ^ (i + j)
pow-·-pow i j = pow-· i (2 ^ j) ∙ mul_comm (2 ^ j) (2 ^ i) ∙ sym (pow-add 2 i j)

-- ---- three products of halves for four

pub karatsuba : (al ah bl bh : ℕ) → al < 2 ^ 64 → bl < 2 ^ 64
    → long 128 (ah * 2 ^ 64 + al) (bh * 2 ^ 64 + bl)
    ≡ (long 64 al bl ⊕ (long 64 (al ⊕ ah) (bl ⊕ bh) ⊕ (long 64 al bl ⊕ long 64 ah bh)) * 2 ^ 64) ⊕ long 64 ah bh * 2 ^ 64 * 2 ^ 64
karatsuba al ah bl bh ha hb =
    long-split 64 64 (ah * 2 ^ 64 + al) bh bl hb
    ∙ ap₂ ◌⊕◌ (first bl)
    (long-shl 64 64 (ah * 2 ^ 64 + al) bh ∙ ap (λ (x : ℕ). x * 2 ^ 64) (first bh) ∙ sym (⊕-shl 64 (long 64 ah bh * 2 ^ 64) (long 64 al bh)))
    ∙ regroup (long 64 ah bl * 2 ^ 64) (long 64 al bl) (long 64 ah bh * 2 ^ 64 * 2 ^ 64) (long 64 al bh * 2 ^ 64)
    ∙ ap (λ (x : ℕ). (long 64 al bl ⊕ x) ⊕ long 64 ah bh * 2 ^ 64 * 2 ^ 64) (⊕-shl 64 (long 64 ah bl) (long 64 al bh) ∙ ap (λ (x : ℕ). x * 2 ^ 64) (sym middle))
  where
    first : (b : ℕ) → long 64 (ah * 2 ^ 64 + al) b ≡ long 64 ah b * 2 ^ 64 ⊕ long 64 al b
    first b =
        ap (λ (x : ℕ). long 64 x b) (sym (⊕-parts ah 64 al ha)) ∙ ⊕-long 64 (ah * 2 ^ 64) al b
        ∙ ap (λ (x : ℕ). x ⊕ long 64 al b) (long-shl 64 64 ah b)

    regroup : (p q r s : ℕ) → (p ⊕ q) ⊕ (r ⊕ s) ≡ (q ⊕ (p ⊕ s)) ⊕ r
    regroup p q r s = simp (⊕_assoc, ⊕-left_comm, ⊕_comm)

    cancel : (p q r s : ℕ) → ((p ⊕ q) ⊕ (r ⊕ s)) ⊕ (p ⊕ s) ≡ r ⊕ q
    cancel p q r s =
        ap (λ (x : ℕ). x ⊕ (p ⊕ s)) (arrange p q r s) ∙ ⊕_comm ((p ⊕ s) ⊕ (r ⊕ q)) (p ⊕ s) ∙ ⊕-cancel (p ⊕ s) (r ⊕ q)
      where
        arrange : (p q r s : ℕ) → (p ⊕ q) ⊕ (r ⊕ s) ≡ (p ⊕ s) ⊕ (r ⊕ q)
        arrange p q r s = simp (⊕_assoc, ⊕-left_comm, ⊕_comm)

    middle : long 64 (al ⊕ ah) (bl ⊕ bh) ⊕ (long 64 al bl ⊕ long 64 ah bh) ≡ long 64 ah bl ⊕ long 64 al bh
    middle =
        ap (λ (x : ℕ). x ⊕ (long 64 al bl ⊕ long 64 ah bh)) (⊕-long 64 al ah (bl ⊕ bh) ∙ ap₂ ◌⊕◌ (long-⊕ 64 al bl bh) (long-⊕ 64 ah bl bh))
        ∙ cancel (long 64 al bl) (long 64 al bh) (long 64 ah bl) (long 64 ah bh)

-- ---- reduced

unfoldable pub red : ℕ → ℕ
red w = w % 2 ^ 128 ⊕ reduction ⊗ (w / 2 ^ 128)

pub red-⊕ : Additive red
unfolding red
red-⊕ a b =
    ap₂ ◌⊕◌ (⊕-mod a b 128) (ap (◌⊗◌ reduction) (⊕-shr a b 128) ∙ ⊗-⊕ reduction (a / 2 ^ 128) (b / 2 ^ 128))
    ∙ ⊕_swap (a % 2 ^ 128) (b % 2 ^ 128) (reduction ⊗ (a / 2 ^ 128)) (reduction ⊗ (b / 2 ^ 128))

right : ℕ → Bool
right m = eqb (xtime (red (2 ^ m))) (red (2 ^ suc m))

steps : T (all_below 254 right)
unfolding right red ◌⊗◌ mul_bits xtime reduction sel ◌⊕◌
steps = tt

red-pow : (m : ℕ) → m < 255 → red (2 ^ m) ≡ times m 1
unfolding right
red-pow zero h = unfold red ◌⊗◌ mul_bits xtime reduction sel ◌⊕◌ in refl
red-pow (suc m) h =
    sym (eqb→eq (xtime (red (2 ^ m))) (red (2 ^ suc m)) (below 254 right steps m (le_of_suc-le-suc h)))
    ∙ ap xtime (red-pow m (omega arith)) ∙ sym (times-xtime m 1)

red-shl : (i a : ℕ) → i < 128 → a < 2 ^ 128 → times i a ≡ red (a * 2 ^ i)
red-shl i a h l =
    ext 128 (times i) (λ x. red (x * 2 ^ i)) (times-⊕ i) (λ x y. ap red (sym (⊕-shl i x y)) ∙ red-⊕ (x * 2 ^ i) (y * 2 ^ i))
    (λ j k.
    ap (times i) (sym (times-one j k)) ∙ times-times i j 1 ∙ sym (red-pow (i + j) (omega arith))
    ∙ ap red (pow-add 2 i j ∙ mul_comm (2 ^ i) (2 ^ j))) a l

-- the product of words, reduced from the long product
pub ⊗-red : (a b : ℕ) → a < 2 ^ 128 → b < 2 ^ 128 → a ⊗ b ≡ red (long 128 a b)
⊗-red a b ha hb =
    ext 128 (◌⊗◌ a) (λ x. red (long 128 a x)) (⊗-⊕ a) (λ x y. ap red (long-⊕ 128 a x y) ∙ red-⊕ (long 128 a x) (long 128 a y))
    (λ i k. ⊗-pow i a k ha ∙ red-shl i a k ha ∙ ap red (sym (long-pow 128 i a k))) b hb
