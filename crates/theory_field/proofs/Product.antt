-- The product is additive on both sides, commutative and associative, and 1 is its unit: a commutative ring of all numbers.
use mathlib.Core.Path.{◌≡◌, refl, sym, ap, ap₂, ◌∙◌}
use Prim.Native.Nat.{ℕ, zero, suc, ◌+◌, ◌*◌, ◌/◌, ◌%◌, ◌^◌, ◌<◌}
use native.Mathlib.Nat.{not-suc-le-zero, zero-lt-suc, le_of_suc-le-suc, le_of_suc-le, zero-add, suc-add, two-mul, pow-suc}
use native.Mathlib.Nat.{mod-lt, mod-mod, mod-eq_of_lt, add-mod, mul-mod_left, mul-div_cancel}
use lib.Pow.{pow_pos, split, field}
use lib.Bits.{shifted_half, shifted_even}
use lib.Dec.{T, eqb, eqb→eq, lit<}
use Rattle.theory_laws.specs.Xor.{◌⊕◌, bit, sel}
use Rattle.theory_laws.proofs.Xor.{zero-⊕, ⊕-zero, ⊕_self, ⊕_dbl, ⊕-mod, ⊕-half, ⊕_swap, ⊕-lt, ⊕-parts}
use Rattle.theory_laws.proofs.Xor.{⊕_assoc, ⊕-left_comm, ⊕_comm, ⊕-cancel, sel-⊕, sel-odd, sel-bit, sel-lt}
use Rattle.theory_laws.proofs.Linear.{Additive, at_zero, ext, all_below, below}
use Rattle.theory_field.specs.Field.{reduction, xtime, mul_bits, ◌⊗◌}

-- ---- times x

pub xtime-⊕ : Additive xtime
unfolding xtime
xtime-⊕ a b =
    ap₂ ◌⊕◌ (sel-bit 127 a b reduction) (ap (λ (x : ℕ). x % 2 ^ 128) (⊕_dbl a b) ∙ ⊕-mod (2 * a) (2 * b) 128)
    ∙ ⊕_swap (sel (bit 127 a) reduction) (sel (bit 127 b) reduction) (2 * a % 2 ^ 128) (2 * b % 2 ^ 128)

pub xtime-sel : (p a : ℕ) → xtime (sel p a) ≡ sel p (xtime a)
unfolding sel
xtime-sel zero a = at_zero xtime xtime-⊕
xtime-sel (suc p) a = refl

reduction-lt : reduction < 2 ^ 128
unfolding reduction
reduction-lt = lit< tt

pub xtime-lt : (v : ℕ) → xtime v < 2 ^ 128
unfolding xtime
xtime-lt v = ⊕-lt 128 (sel (bit 127 v) reduction) (2 * v % 2 ^ 128) (sel-lt (bit 127 v) 128 reduction reduction-lt) (mod-lt (2 * v) (pow_pos 128))

-- only the 128 low bits count
pub xtime-mod : (v : ℕ) → xtime (v % 2 ^ 128) ≡ xtime v
unfolding xtime
xtime-mod v =
    ap₂ (λ (x y : ℕ). sel x reduction ⊕ y)
    (ap (λ (x : ℕ). x % 2) (field v 1 127) ∙ mod-mod (v / 2 ^ 127) 2)
    (ap (λ (x : ℕ). x % 2 ^ 128) (two-mul (v % 2 ^ 128)) ∙ sym (add-mod v v (2 ^ 128)) ∙ ap (λ (x : ℕ). x % 2 ^ 128) (sym (two-mul v)))

-- ---- additive on both sides, for any number of bits

mul_bits-zero : (n a : ℕ) → mul_bits n a 0 ≡ 0
unfolding mul_bits sel
mul_bits-zero zero a = refl
mul_bits-zero (suc n) a = ap (λ (x : ℕ). 0 ⊕ x) (mul_bits-zero n (xtime a)) ∙ ⊕_self 0

mul_bits-⊕ : (n a b c : ℕ) → mul_bits n a (b ⊕ c) ≡ mul_bits n a b ⊕ mul_bits n a c
unfolding mul_bits
mul_bits-⊕ zero a b c = sym (⊕_self 0)
mul_bits-⊕ (suc n) a b c =
    ap₂ ◌⊕◌ (sel-odd b c a) (ap (mul_bits n (xtime a)) (⊕-half b c) ∙ mul_bits-⊕ n (xtime a) (b / 2) (c / 2))
    ∙ ⊕_swap (sel (b % 2) a) (sel (c % 2) a) (mul_bits n (xtime a) (b / 2)) (mul_bits n (xtime a) (c / 2))

⊕-mul_bits : (n a b c : ℕ) → mul_bits n (a ⊕ b) c ≡ mul_bits n a c ⊕ mul_bits n b c
unfolding mul_bits
⊕-mul_bits zero a b c = sym (⊕_self 0)
⊕-mul_bits (suc n) a b c =
    ap₂ ◌⊕◌ (sel-⊕ (c % 2) a b) (ap (λ (x : ℕ). mul_bits n x (c / 2)) (xtime-⊕ a b) ∙ ⊕-mul_bits n (xtime a) (xtime b) (c / 2))
    ∙ ⊕_swap (sel (c % 2) a) (sel (c % 2) b) (mul_bits n (xtime a) (c / 2)) (mul_bits n (xtime b) (c / 2))

xtime-mul_bits : (n a b : ℕ) → mul_bits n (xtime a) b ≡ xtime (mul_bits n a b)
unfolding mul_bits
xtime-mul_bits zero a b = sym (at_zero xtime xtime-⊕)
xtime-mul_bits (suc n) a b =
    ap₂ ◌⊕◌ (sym (xtime-sel (b % 2) a)) (xtime-mul_bits n (xtime a) (b / 2))
    ∙ sym (xtime-⊕ (sel (b % 2) a) (mul_bits n (xtime a) (b / 2)))

mul_bits-lt : (n a b : ℕ) → a < 2 ^ 128 → mul_bits n a b < 2 ^ 128
unfolding mul_bits
mul_bits-lt zero a b h = pow_pos 128
mul_bits-lt (suc n) a b h =
    ⊕-lt 128 (sel (b % 2) a) (mul_bits n (xtime a) (b / 2)) (sel-lt (b % 2) 128 a h) (mul_bits-lt n (xtime a) (b / 2) (xtime-lt a))

-- ---- powers of x

-- a times x^i
abbrev pub times : ℕ → ℕ → ℕ
times zero a = a
times (suc i) a = times i (xtime a)

pub times-xtime : (i a : ℕ) → times i (xtime a) ≡ xtime (times i a)
times-xtime zero a = refl
times-xtime (suc i) a = times-xtime i (xtime a)

pub times-times : (i j a : ℕ) → times i (times j a) ≡ times (i + j) a
times-times zero j a = ap (λ (n : ℕ). times n a) (sym (zero-add j))
times-times (suc i) j a =
    ap (times i) (sym (times-xtime j a)) ∙ times-times i j (xtime a) ∙ ap (λ (n : ℕ). times n a) (sym (suc-add i j))

pub times-⊕ : (i : ℕ) → Additive (times i)
times-⊕ zero a b = refl
times-⊕ (suc i) a b = ap (times i) (xtime-⊕ a b) ∙ times-⊕ i (xtime a) (xtime b)

mul_bits-pow : (n i a : ℕ) → i < n → mul_bits n a (2 ^ i) ≡ times i a
unfolding mul_bits sel
mul_bits-pow zero i a h = absurd (not-suc-le-zero h)
mul_bits-pow (suc n) zero a h = ap (λ (x : ℕ). a ⊕ x) (mul_bits-zero n (xtime a)) ∙ ⊕-zero a
mul_bits-pow (suc n) (suc i) a h =
    ap₂ (λ (x y : ℕ). sel x a ⊕ mul_bits n (xtime a) y)
    (ap (λ (x : ℕ). x % 2) (pow-suc 2 i) ∙ mul-mod_left (2 ^ i) 2)
    (ap (λ (x : ℕ). x / 2) (pow-suc 2 i) ∙ mul-div_cancel (2 ^ i) (zero-lt-suc 1))
    ∙ ap (λ (x : ℕ). 0 ⊕ x) (mul_bits-pow n i (xtime a) (le_of_suc-le-suc h))
    ∙ zero-⊕ (times i (xtime a))

times-mul_bits : (n i a b : ℕ) → mul_bits n (times i a) b ≡ times i (mul_bits n a b)
times-mul_bits n zero a b = refl
times-mul_bits n (suc i) a b = times-mul_bits n i (xtime a) b ∙ ap (times i) (xtime-mul_bits n a b)

-- x^i is the word 2^i, for i below 128: computed
powers : T (all_below 127 (λ i. eqb (xtime (2 ^ i)) (2 ^ suc i)))
unfolding xtime reduction sel ◌⊕◌
powers = tt

pub times-one : (i : ℕ) → i < 128 → times i 1 ≡ 2 ^ i
times-one zero h = refl
times-one (suc i) h =
    times-xtime i 1 ∙ ap xtime (times-one i (le_of_suc-le h))
    ∙ eqb→eq (xtime (2 ^ i)) (2 ^ suc i) (below 127 (λ i. eqb (xtime (2 ^ i)) (2 ^ suc i)) powers i (le_of_suc-le-suc h))

-- ---- only the 128 low bits count

past-bits : (n a x : ℕ) → mul_bits n a (x * 2 ^ n) ≡ 0
unfolding mul_bits sel
past-bits zero a x = refl
past-bits (suc n) a x =
    ap₂ (λ (p q : ℕ). sel p a ⊕ mul_bits n (xtime a) q) (shifted_even x n) (shifted_half x n)
    ∙ ap (λ (y : ℕ). 0 ⊕ y) (past-bits n (xtime a) x) ∙ ⊕_self 0

mul_bits-mod : (n a b : ℕ) → mul_bits n a (b % 2 ^ n) ≡ mul_bits n a b
mul_bits-mod n a b =
    sym
    (ap (mul_bits n a) (sym (split b n) ∙ sym (⊕-parts (b / 2 ^ n) n (b % 2 ^ n) (mod-lt b (pow_pos n))))
    ∙ mul_bits-⊕ n a (b / 2 ^ n * 2 ^ n) (b % 2 ^ n)
    ∙ ap (λ (x : ℕ). x ⊕ mul_bits n a (b % 2 ^ n)) (past-bits n a (b / 2 ^ n)) ∙ zero-⊕ (mul_bits n a (b % 2 ^ n)))

times_mod : (i a : ℕ) → times i a % 2 ^ 128 ≡ times i (a % 2 ^ 128)
times_mod zero a = refl
times_mod (suc i) a = times_mod i (xtime a) ∙ ap (times i) (mod-eq_of_lt (xtime-lt a) ∙ sym (xtime-mod a))

-- ---- the product of words: a commutative ring, of all numbers

-- a product is a word
pub ⊗-lt : (a b : ℕ) → a ⊗ b < 2 ^ 128
unfolding ◌⊗◌
⊗-lt a b = mul_bits-lt 128 (a % 2 ^ 128) b (mod-lt a (pow_pos 128))

pub ⊗-⊕ : (a b c : ℕ) → a ⊗ (b ⊕ c) ≡ a ⊗ b ⊕ a ⊗ c
unfolding ◌⊗◌
⊗-⊕ a b c = mul_bits-⊕ 128 (a % 2 ^ 128) b c

pub ⊕-⊗ : (a b c : ℕ) → (a ⊕ b) ⊗ c ≡ a ⊗ c ⊕ b ⊗ c
unfolding ◌⊗◌
⊕-⊗ a b c = ap (λ (x : ℕ). mul_bits 128 x c) (⊕-mod a b 128) ∙ ⊕-mul_bits 128 (a % 2 ^ 128) (b % 2 ^ 128) c

pub mod-⊗ : (a b : ℕ) → (a % 2 ^ 128) ⊗ b ≡ a ⊗ b
unfolding ◌⊗◌
mod-⊗ a b = ap (λ (x : ℕ). mul_bits 128 x b) (mod-mod a (2 ^ 128))

pub ⊗-mod : (a b : ℕ) → a ⊗ (b % 2 ^ 128) ≡ a ⊗ b
unfolding ◌⊗◌
⊗-mod a b = mul_bits-mod 128 (a % 2 ^ 128) b

-- by the bits of the second factor, as code computes it
pub ⊗-bits : (a b : ℕ) → a < 2 ^ 128 → a ⊗ b ≡ mul_bits 128 a b
unfolding ◌⊗◌
⊗-bits a b h = ap (λ (x : ℕ). mul_bits 128 x b) (mod-eq_of_lt h)

times-⊗ : (i a b : ℕ) → times i a ⊗ b ≡ times i (a ⊗ b)
unfolding ◌⊗◌
times-⊗ i a b = ap (λ (x : ℕ). mul_bits 128 x b) (times_mod i a) ∙ times-mul_bits 128 i (a % 2 ^ 128) b

one-⊗-mod : (b : ℕ) → 1 ⊗ b ≡ b % 2 ^ 128
unfolding ◌⊗◌
one-⊗-mod b =
    sym (mul_bits-mod 128 1 b)
    ∙ ext 128 (mul_bits 128 1) (λ x. x) (mul_bits-⊕ 128 1) (λ a b. refl) (λ i k. mul_bits-pow 128 i 1 k ∙ times-one i k) (b % 2 ^ 128) (mod-lt b (pow_pos 128))

pub one-⊗ : (b : ℕ) → b < 2 ^ 128 → 1 ⊗ b ≡ b
one-⊗ b h = one-⊗-mod b ∙ mod-eq_of_lt h

-- x^i times b, either way round
⊗-pow-mod : (i a : ℕ) → i < 128 → a ⊗ 2 ^ i ≡ times i (a % 2 ^ 128)
unfolding ◌⊗◌
⊗-pow-mod i a h = mul_bits-pow 128 i (a % 2 ^ 128) h

pow-⊗-mod : (i b : ℕ) → i < 128 → 2 ^ i ⊗ b ≡ times i (b % 2 ^ 128)
pow-⊗-mod i b h = ap (λ (x : ℕ). x ⊗ b) (sym (times-one i h)) ∙ times-⊗ i 1 b ∙ ap (times i) (one-⊗-mod b)

pub ⊗-pow : (i a : ℕ) → i < 128 → a < 2 ^ 128 → a ⊗ 2 ^ i ≡ times i a
⊗-pow i a h l = ⊗-pow-mod i a h ∙ ap (times i) (mod-eq_of_lt l)

pub pow-⊗ : (i b : ℕ) → i < 128 → b < 2 ^ 128 → 2 ^ i ⊗ b ≡ times i b
pow-⊗ i b h l = pow-⊗-mod i b h ∙ ap (times i) (mod-eq_of_lt l)

-- both sides are additive in a, and equal where a is x^i
pub ⊗_comm : (a b : ℕ) → a ⊗ b ≡ b ⊗ a
⊗_comm a b =
    sym (mod-⊗ a b)
    ∙ ext 128 (λ x. x ⊗ b) (◌⊗◌ b) (λ x y. ⊕-⊗ x y b) (⊗-⊕ b) (λ i k. pow-⊗-mod i b k ∙ sym (⊗-pow-mod i b k)) (a % 2 ^ 128) (mod-lt a (pow_pos 128))
    ∙ ⊗-mod b a

pub ⊗_assoc : (a b c : ℕ) → (a ⊗ b) ⊗ c ≡ a ⊗ (b ⊗ c)
⊗_assoc a b c =
    ap (λ (x : ℕ). x ⊗ c) (sym (mod-⊗ a b))
    ∙ ext 128 (λ x. (x ⊗ b) ⊗ c) (λ x. x ⊗ (b ⊗ c))
    (λ x y. ap (λ (z : ℕ). z ⊗ c) (⊕-⊗ x y b) ∙ ⊕-⊗ (x ⊗ b) (y ⊗ b) c)
    (λ x y. ⊕-⊗ x y (b ⊗ c))
    (λ i k.
    ap (λ (x : ℕ). x ⊗ c) (pow-⊗-mod i b k) ∙ times-⊗ i (b % 2 ^ 128) c ∙ ap (times i) (mod-⊗ b c ∙ sym (mod-eq_of_lt (⊗-lt b c)))
    ∙ sym (pow-⊗-mod i (b ⊗ c) k))
    (a % 2 ^ 128) (mod-lt a (pow_pos 128))
    ∙ mod-⊗ a (b ⊗ c)

pub ⊗-left_comm : (a b c : ℕ) → a ⊗ (b ⊗ c) ≡ b ⊗ (a ⊗ c)
⊗-left_comm a b c = sym (⊗_assoc a b c) ∙ ap (λ (x : ℕ). x ⊗ c) (⊗_comm a b) ∙ ⊗_assoc b a c

pub zero-⊗ : (b : ℕ) → 0 ⊗ b ≡ 0
zero-⊗ b = at_zero (λ x. x ⊗ b) (λ x y. ⊕-⊗ x y b)

pub ⊗-zero : (a : ℕ) → a ⊗ 0 ≡ 0
⊗-zero a = at_zero (◌⊗◌ a) (⊗-⊕ a)

pub ⊗-one : (a : ℕ) → a < 2 ^ 128 → a ⊗ 1 ≡ a
⊗-one a h = ⊗_comm a 1 ∙ one-⊗ a h

-- the unit is absorbed by a product, whatever the numbers
pub one-⊗-⊗ : (a b : ℕ) → 1 ⊗ (a ⊗ b) ≡ a ⊗ b
one-⊗-⊗ a b = one-⊗ (a ⊗ b) (⊗-lt a b)

pub ⊗-one-⊗ : (a b : ℕ) → a ⊗ (1 ⊗ b) ≡ a ⊗ b
⊗-one-⊗ a b = ⊗-left_comm a 1 b ∙ one-⊗-⊗ a b

pub ⊗-⊗-one : (a b : ℕ) → a ⊗ (b ⊗ 1) ≡ a ⊗ b
⊗-⊗-one a b = ap (λ (x : ℕ). a ⊗ x) (⊗_comm b 1) ∙ ⊗-one-⊗ a b

-- a choice by a bit goes through a product
pub ⊗-sel : (b c x : ℕ) → c ⊗ sel b x ≡ sel b (c ⊗ x)
unfolding sel
⊗-sel zero c x = ⊗-zero c
⊗-sel (suc b) c x = refl

-- `simp ring` decides equations between sums of products; where a bare 1 ⊗ a is left, `simp (ring, one-⊗)` with a < 2 ^ 128 in reach
pub ruleset ring = (
  ⊕_comm,
  ⊕_assoc,
  ⊕-left_comm,
  ⊕_self,
  ⊕-cancel,
  ⊕-zero,
  zero-⊕,
  ⊗_comm,
  ⊗_assoc,
  ⊗-left_comm,
  ⊗-zero,
  zero-⊗,
  ⊗-⊕,
  ⊕-⊗,
  one-⊗-⊗,
  ⊗-one-⊗,
  ⊗-⊗-one,
)
