-- Orders and powers of two, and the counts of trailing zeros and of set digits, as a stack of subtrees needs them.
use mathlib.Core.Path.{◌≡◌, refl, ap}
use mathlib.Core.Logic.{◌⊎◌, inl, inr}
use Prim.Native.Nat.{ℕ, zero, suc, ◌+◌, ◌*◌, ◌/◌, ◌%◌, ◌^◌, ◌<◌, ◌≤◌}
use native.Mathlib.Decide.{dec_le, dec_lt}
use native.Mathlib.Nat.{lt_of_not-le, le_of_suc-le-suc, pow-suc, not-suc-le-zero}
use native.Mathlib.Omega.{arith}
use lib.Count.{count_trailing_zeros, under, ones, ones_step}
use lib.Pow.{pow_mono}

-- a number is below another, or not
pub lt_or_le : (a b : ℕ) → (a < b) ⊎ (b ≤ a)
lt_or_le a b = go (dec_le b a)
  where
    go : Dec (b ≤ a) → (a < b) ⊎ (b ≤ a)
    go (yes h) = inr h
    go (no f) = inl (lt_of_not-le f)

-- a number is below the power of two that it names
pub lt-pow : (n : ℕ) → n < 2 ^ n
lt-pow zero = omega arith
lt-pow (suc n) = omega (arith, lt-pow n)

pub pow-two : (k : ℕ) → 2 ^ suc k ≡ 2 * 2 ^ k
pow-two k = omega (arith, pow-suc 2 k)

-- ---- trailing zeros

under_cong : (r : ℕ) {a b : ℕ} → (r ≡ 0 → a ≡ b) → under r a ≡ under r b
under_cong zero f = ap suc (f refl)
under_cong (suc r) f = refl

pub tz_pow : (K k : ℕ) → k ≤ K → count_trailing_zeros K (2 ^ k) ≡ k
unfolding count_trailing_zeros
tz_pow zero zero h = refl
tz_pow zero (suc k) h = absurd (not-suc-le-zero h)
tz_pow (suc K) zero h = refl
tz_pow (suc K) (suc k) h =
    let a : 2 ^ suc k % 2 ≡ 0 = omega (arith, pow-two k) in
    let b : 2 ^ suc k / 2 ≡ 2 ^ k = omega (arith, pow-two k) in
    rw (a, b) (ap suc (tz_pow K k (le_of_suc-le-suc h)))

pub tz_add : (K k n : ℕ) → 0 < n → n < 2 ^ k → count_trailing_zeros K (2 ^ k + n) ≡ count_trailing_zeros K n
unfolding count_trailing_zeros
tz_add zero k n p h = refl
tz_add (suc K) zero n p h = absurd (omega arith)
tz_add (suc K) (suc k) n p h =
    let a : (2 ^ suc k + n) % 2 ≡ n % 2 = omega (arith, pow-two k) in
    let b : (2 ^ suc k + n) / 2 ≡ 2 ^ k + n / 2 = omega (arith, pow-two k) in
    rw (a, b) (under_cong (n % 2) (λ (z : n % 2 ≡ 0). tz_add K k (n / 2) (omega arith) (omega (arith, pow-two k))))

pub tz_ones : (K n : ℕ) → count_trailing_zeros K (n + 1) ≤ ones n
unfolding count_trailing_zeros
tz_ones zero n = omega arith
tz_ones (suc K) n = go ((n + 1) % 2) refl (tz_ones K (n / 2))
  where
    go : (r : ℕ) → (n + 1) % 2 ≡ r → count_trailing_zeros K (n / 2 + 1) ≤ ones (n / 2) → under r (count_trailing_zeros K ((n + 1) / 2)) ≤ ones n
    go zero e i =
        let a : n % 2 ≡ 1 = omega arith in
        let b : (n + 1) / 2 ≡ n / 2 + 1 = omega arith in
        rw b (omega (arith, ones_step n))
    go (suc r) e i = omega arith

-- the set digits of the next number: the ones at the end give way to one
pub ones_next : (K n : ℕ) → n + 1 < 2 ^ K → ones (n + 1) + count_trailing_zeros K (n + 1) ≡ ones n + 1
unfolding count_trailing_zeros
ones_next zero n h = absurd (omega arith)
ones_next (suc K) n h = go ((n + 1) % 2) refl (λ (l : n / 2 + 1 < 2 ^ K). ones_next K (n / 2) l)
  where
    go : (r : ℕ) → (n + 1) % 2 ≡ r → (n / 2 + 1 < 2 ^ K → ones (n / 2 + 1) + count_trailing_zeros K (n / 2 + 1) ≡ ones (n / 2) + 1)
        → ones (n + 1) + under r (count_trailing_zeros K ((n + 1) / 2)) ≡ ones n + 1
    go zero e f =
        let b : (n + 1) / 2 ≡ n / 2 + 1 = omega arith in
        let i = f (omega (arith, pow-two K)) in
        let s : ones (n + 1) ≡ (n + 1) % 2 + ones (n / 2 + 1) = rw b at (ones_step (n + 1)) in
        rw b (omega (arith, ones_step n))
    go (suc r) e f =
        let b : (n + 1) / 2 ≡ n / 2 = omega arith in
        let s : ones (n + 1) ≡ (n + 1) % 2 + ones (n / 2) = rw b at (ones_step (n + 1)) in
        omega (arith, ones_step n)

-- ---- the exponent of a power below another

pub pow_below : (k m : ℕ) → 2 ^ m < 2 ^ k → m < k
pow_below k m h = pick (dec_lt m k)
  where
    pick : Dec (m < k) → m < k
    pick (yes l) = l
    pick (no l) = absurd (omega (arith, pow_mono {i = k} {j = m} (omega arith)))
