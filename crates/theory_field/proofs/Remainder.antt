-- The product of two words is the remainder of their carry-less product by x^128 + x^7 + x^2 + x + 1: there is a quotient, and
-- quotient and remainder are the only ones.
use mathlib.Core.Path.{◌≡◌, refl, sym, ap, ap₂, ◌∙◌, subst}
use mathlib.Core.Logic.{⊎_elim}
use Prim.Native.Nat.{ℕ, zero, suc, ◌+◌, ◌-◌, ◌*◌, ◌/◌, ◌%◌, ◌^◌, ◌≤◌, ◌<◌}
use native.Mathlib.Nat.{mul_comm, mul-one, mul-div_cancel, mod-eq_of_lt, mod-lt, zero-lt-suc, add_comm, div-eq_of_lt, lt_of_lt_of_le, le-add_left}
use native.Mathlib.Numerals.{add-one}
use native.Mathlib.Omega.{arith}
use lib.Arith.{lt-one}
use lib.Pow.{pow_pos, pow_mono, split, shr-shr, shr_lt, shl_lt, shl-shr}
use lib.Dec.{lit<}
use Rattle.theory_laws.specs.Xor.{◌⊕◌, bit, sel}
use Rattle.theory_laws.proofs.Xor.{zero-⊕, ⊕-zero, ⊕-lt, ⊕-shr, ⊕_assoc, ⊕-left_comm, ⊕_comm, ⊕-cancel, ⊕_self, ⊕_inj, ⊕-eq, ⊕-parts, sel-⊕, sel-times}
use Rattle.theory_laws.proofs.Linear.{at_zero}
use Rattle.theory_laws.proofs.Numbers.{lt_or_le, lt-pow}
use Rattle.theory_field.specs.Field.{reduction, xtime, mul_bits, ◌⊗◌}
use Rattle.theory_field.specs.LongProduct.{long, ◌·◌, modulus, Division}
use Rattle.theory_field.proofs.Product.{xtime-lt, ⊗-lt, ⊗-bits}
use Rattle.theory_field.proofs.LongProduct.{red, ⊕-long, long_lt, long-more, long-split, long-pow, pow-long, ·-long, ·_comm, ⊕-·, pow-·}

-- the reduction is the modulus without x^128
modulus-parts : modulus ≡ 2 ^ 128 ⊕ reduction
unfolding modulus reduction ◌⊕◌
modulus-parts = refl

-- ---- there is a quotient

-- bit k is the one that doubling carries out of k + 1 bits
carried : (k a : ℕ) → a < 2 ^ suc k → 2 * a ≡ sel (bit k a) (2 ^ suc k) ⊕ 2 * a % 2 ^ suc k
carried k a h =
    sym (split (2 * a) (suc k)) ∙ sym (⊕-parts (2 * a / 2 ^ suc k) (suc k) (2 * a % 2 ^ suc k) (mod-lt (2 * a) (pow_pos (suc k))))
    ∙ ap (λ (x : ℕ). x ⊕ 2 * a % 2 ^ suc k) (ap (λ (x : ℕ). x * 2 ^ suc k) top ∙ sym (sel-times (bit k a) (2 ^ suc k) (mod-lt (a / 2 ^ k) (zero-lt-suc 1))))
  where
    top : 2 * a / 2 ^ suc k ≡ bit k a
    top =
        ap (λ (x : ℕ). 2 * a / 2 ^ x) (sym (add-one k) ∙ add_comm k 1) ∙ sym (shr-shr (2 * a) 1 k)
        ∙ ap (λ (x : ℕ). x / 2 ^ k) (ap (λ (x : ℕ). x / 2) (mul_comm 2 a) ∙ mul-div_cancel a (zero-lt-suc 1))
        ∙ sym (mod-eq_of_lt (shr_lt 1 k (subst (λ (x : ℕ). a < 2 ^ x) (sym (add-one k) ∙ add_comm k 1) h)))

-- a word times x is the doubled word, less the modulus where bit 127 was set
double : (a : ℕ) → a < 2 ^ 128 → 2 * a ≡ sel (bit 127 a) modulus ⊕ xtime a
unfolding xtime
double a h =
    carried 127 a h
    ∙ cancelled (sel (bit 127 a) (2 ^ 128)) (sel (bit 127 a) reduction) (2 * a % 2 ^ 128)
    ∙ ap (λ (x : ℕ). x ⊕ xtime a) (sym (sel-⊕ (bit 127 a) (2 ^ 128) reduction) ∙ ap (sel (bit 127 a)) (sym modulus-parts))
  where
    cancelled : (s r l : ℕ) → s ⊕ l ≡ (s ⊕ r) ⊕ (r ⊕ l)
    cancelled s r l = sym (⊕_assoc s r (r ⊕ l) ∙ ap (λ (x : ℕ). s ⊕ x) (⊕-cancel r l))

zero-· : (b : ℕ) → 0 · b ≡ 0
zero-· b = at_zero (λ x. x · b) (λ x y. ⊕-· x y b)

-- a first factor chosen by a bit
chosen : (n c a b : ℕ) → b < 2 ^ n → long n (sel c a) b ≡ sel c b · a
unfolding sel
chosen n zero a b h = at_zero (λ x. long n x b) (λ x y. ⊕-long n x y b) ∙ sym (zero-· a)
chosen n (suc c) a b h = sym (·-long n a b h) ∙ ·_comm a b

-- the multiples of the modulus that the steps of `mulBits` leave out: at each step by the bits of b that are still to come
quotient : ℕ → ℕ → ℕ → ℕ
quotient zero a b = 0
quotient (suc n) a b = sel (bit 127 a) (b / 2) ⊕ quotient n (xtime a) (b / 2)

long-divided : (n a b : ℕ) → a < 2 ^ 128 → b < 2 ^ n → long n a b ≡ quotient n a b · modulus ⊕ mul_bits n a b
unfolding long mul_bits quotient
long-divided zero a b ha hb = sym (⊕-zero (0 · modulus) ∙ zero-· modulus)
long-divided (suc n) a b ha hb =
    ap (λ (x : ℕ). sel (b % 2) a ⊕ long n x (b / 2)) (double a ha)
    ∙ ap (λ (x : ℕ). sel (b % 2) a ⊕ x)
    (⊕-long n (sel (bit 127 a) modulus) (xtime a) (b / 2)
    ∙ ap₂ ◌⊕◌ (chosen n (bit 127 a) modulus (b / 2) (omega arith)) (long-divided n (xtime a) (b / 2) (xtime-lt a) (omega arith)))
    ∙ regroup (sel (b % 2) a) (sel (bit 127 a) (b / 2) · modulus) (quotient n (xtime a) (b / 2) · modulus) (mul_bits n (xtime a) (b / 2))
    ∙ ap (λ (x : ℕ). x ⊕ (sel (b % 2) a ⊕ mul_bits n (xtime a) (b / 2))) (sym (⊕-· (sel (bit 127 a) (b / 2)) (quotient n (xtime a) (b / 2)) modulus))
  where
    regroup : (p q r s : ℕ) → p ⊕ (q ⊕ (r ⊕ s)) ≡ (q ⊕ r) ⊕ (p ⊕ s)
    regroup p q r s = simp (⊕_assoc, ⊕-left_comm)

-- the carry-less product of two words, divided by the modulus, leaves their product
pub ⊗_remainder : (a b : ℕ) → a < 2 ^ 128 → b < 2 ^ 128 → (q : ℕ) × Division (a · b) q (a ⊗ b)
⊗_remainder a b ha hb = (
  quotient 128 a b,
  record { whole = ·-long 128 a b hb ∙ long-divided 128 a b ha hb ∙ ap (λ (x : ℕ). quotient 128 a b · modulus ⊕ x) (sym (⊗-bits a b ha)); degree = ⊗-lt a b },
)

-- ---- and no other

reduction-lt : reduction < 2 ^ 8
unfolding reduction
reduction-lt = lit< tt

-- n bits times the modulus are n + 128 bits
multiple_lt : (n d : ℕ) → d < 2 ^ n → long n modulus d < 2 ^ (n + 128)
multiple_lt n d h =
    subst (λ (x : ℕ). x < 2 ^ (n + 128))
    (sym (ap (λ (x : ℕ). long n x d) modulus-parts ∙ ⊕-long n (2 ^ 128) reduction d ∙ ap (λ (x : ℕ). x ⊕ long n reduction d) (pow-long n 128 d h)))
    (⊕-lt (n + 128) (d * 2 ^ 128) (long n reduction d) (shl_lt n 128 h)
    (lt_of_lt_of_le (long_lt n 8 reduction d reduction-lt) (pow_mono (omega arith))))

modulus-top : modulus / 2 ^ 128 ≡ 1
unfolding modulus
modulus-top = refl

-- x^n and lower powers, times the modulus: the degree is n + 128
multiple_top : (n d : ℕ) → d < 2 ^ n → long (n + 1) modulus (1 * 2 ^ n + d) / 2 ^ (n + 128) ≡ 1
multiple_top n d h =
    ap (λ (x : ℕ). x / 2 ^ (n + 128)) (long-split n 1 modulus 1 d h ∙ ap (λ (x : ℕ). long n modulus d ⊕ x) (once (modulus * 2 ^ n)))
    ∙ ⊕-shr (long n modulus d) (modulus * 2 ^ n) (n + 128)
    ∙ ap₂ ◌⊕◌ (div-eq_of_lt (multiple_lt n d h)) (sym (shr-shr (modulus * 2 ^ n) n 128) ∙ ap (λ (x : ℕ). x / 2 ^ 128) (shl-shr modulus n) ∙ modulus-top)
    ∙ zero-⊕ 1
  where
    once : (a : ℕ) → long 1 a 1 ≡ a
    once a = long-pow 1 0 a (zero-lt-suc 0) ∙ mul-one a

-- so a multiple of degree below 128 is by a number without a top bit
top-clear : (n q : ℕ) → q < 2 ^ suc n → long (suc n) modulus q < 2 ^ 128 → q < 2 ^ n
top-clear n q h l = ⊎_elim (λ (k : q < 2 ^ n). k) (λ (k : 2 ^ n ≤ q). absurd (none k)) (lt_or_le q (2 ^ n))
  where
    parts : 2 ^ n ≤ q → q ≡ 1 * 2 ^ n + (q - 2 ^ n)
    parts k = omega arith

    none : 2 ^ n ≤ q → ⊥
    none k = let z : ◌≡◌ {A = ℕ} 1 0 = sym (multiple_top n (q - 2 ^ n) (omega arith)) ∙ div-eq_of_lt (small (parts k)) in omega arith
      where
        small : q ≡ 1 * 2 ^ n + (q - 2 ^ n) → long (n + 1) modulus (1 * 2 ^ n + (q - 2 ^ n)) < 2 ^ (n + 128)
        small e =
            lt_of_lt_of_le (subst (λ (x : ℕ). x < 2 ^ 128) (ap₂ (λ (m x : ℕ). long m modulus x) (sym (add-one n)) e) l)
            (pow_mono (le-add_left 128 n))

multiple_small : (n q : ℕ) → q < 2 ^ n → long n modulus q < 2 ^ 128 → q ≡ 0
multiple_small zero q h l = lt-one h
multiple_small (suc n) q h l =
    multiple_small n q (top-clear n q h l)
    (subst (λ (x : ℕ). x < 2 ^ 128) (ap (λ (x : ℕ). long x modulus q) (sym (add-one n)) ∙ long-more n 1 modulus q (top-clear n q h l)) l)

-- which leaves 0
pub small_multiple : (q : ℕ) → q · modulus < 2 ^ 128 → q ≡ 0
unfolding ◌·◌
small_multiple q l = multiple_small q q (lt-pow q) (subst (λ (x : ℕ). x < 2 ^ 128) (·_comm q modulus) l)

-- a quotient and a remainder are the only ones
pub division_unique : (w q r s t : ℕ) → Division w q s → Division w r t → (q ≡ r) × (s ≡ t)
division_unique w q r s t a b = (same, ⊕_inj (r · modulus) (subst (λ (x : ℕ). x · modulus ⊕ s ≡ r · modulus ⊕ t) same both))
  where
    both : q · modulus ⊕ s ≡ r · modulus ⊕ t
    both = sym a.whole ∙ b.whole

    crossed : (x y s t : ℕ) → x ⊕ s ≡ y ⊕ t → x ⊕ y ≡ s ⊕ t
    crossed x y s t e = ⊕_inj s (turned x y s ∙ ap (λ (z : ℕ). y ⊕ z) e ∙ ⊕-cancel y t ∙ sym (⊕-cancel s t))
      where
        turned : (x y s : ℕ) → s ⊕ (x ⊕ y) ≡ y ⊕ (x ⊕ s)
        turned x y s = simp (⊕_comm, ⊕-left_comm)

    same : q ≡ r
    same =
        ⊕-eq q r (small_multiple (q ⊕ r) (subst (λ (x : ℕ). x < 2 ^ 128)
        (sym (⊕-· q r modulus ∙ crossed (q · modulus) (r · modulus) s t both)) (⊕-lt 128 s t a.degree b.degree)))

-- the product of two words is the only remainder
pub remainder_unique : (a b q s : ℕ) → a < 2 ^ 128 → b < 2 ^ 128 → Division (a · b) q s → s ≡ a ⊗ b
remainder_unique a b q s ha hb d =
    (division_unique (a · b) q (⊗_remainder a b ha hb).0 s (a ⊗ b) d (⊗_remainder a b ha hb).1).1

-- ---- the reduction of 256 bits, `red`, is their remainder

-- x^128 times b is the modulus times b, and the reduction times b
shifted : (b : ℕ) → b * 2 ^ 128 ≡ b · modulus ⊕ reduction · b
shifted b =
    undone (b * 2 ^ 128) (reduction · b)
    ∙ ap (λ (x : ℕ). x ⊕ reduction · b)
    (sym (·_comm b modulus ∙ ap (λ (x : ℕ). x · b) modulus-parts ∙ ⊕-· (2 ^ 128) reduction b ∙ ap (λ (x : ℕ). x ⊕ reduction · b) (pow-· 128 b)))
  where
    undone : (a c : ℕ) → a ≡ (a ⊕ c) ⊕ c
    undone a c = simp (⊕_assoc, ⊕_self, ⊕-zero)

pub red_remainder : (w : ℕ) → w < 2 ^ 256 → (q : ℕ) × Division w q (red w)
unfolding red
red_remainder w h =
    let hi = w / 2 ^ 128 in
    let lo = w % 2 ^ 128 in
    let d = ⊗_remainder reduction hi (lt_of_lt_of_le reduction-lt (pow_mono {i = 8} {j = 128} (omega arith))) (shr_lt 128 128 h) in (
      hi ⊕ d.0,
      record {
        whole =
            sym (split w 128) ∙ sym (⊕-parts hi 128 lo (mod-lt w (pow_pos 128)))
            ∙ ap (λ (x : ℕ). x ⊕ lo) (shifted hi ∙ ap (λ (x : ℕ). hi · modulus ⊕ x) d.1.whole)
            ∙ regroup (hi · modulus) (d.0 · modulus) (reduction ⊗ hi) lo
            ∙ ap (λ (x : ℕ). x ⊕ (lo ⊕ reduction ⊗ hi)) (sym (⊕-· hi d.0 modulus));
        degree = ⊕-lt 128 lo (reduction ⊗ hi) (mod-lt w (pow_pos 128)) (⊗-lt reduction hi);
      },
    )
  where
    regroup : (a b c d : ℕ) → (a ⊕ (b ⊕ c)) ⊕ d ≡ (a ⊕ b) ⊕ (d ⊕ c)
    regroup a b c d = simp (⊕_assoc, ⊕_comm)
