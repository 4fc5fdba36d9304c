-- Finite sums: additive, split, swapped, by pairs, with one term; and a number is the sum of its bits.
use mathlib.Core.Path.{◌≡◌, refl, sym, ap, ap₂, ◌∙◌}
use mathlib.Core.Logic.{◌≢◌, ⊎_elim}
use Prim.Native.Nat.{ℕ, zero, suc, ◌+◌, ◌*◌, ◌%◌, ◌^◌, ◌≤◌, ◌<◌}
use native.Mathlib.Nat.{suc-mul, lt_of_lt_of_le, eq-or-lt_of_le, add-suc, add-zero, zero-mul, mod-one, mod-lt, mod-eq_of_lt, div-eq_of_lt, zero-div}
use native.Mathlib.Numerals.{add-one, one-add}
use native.Mathlib.Omega.{arith}
use lib.Pow.{pow_pos, pow-lt, pow_mono, mod-pow-add}
use Rattle.theory_laws.specs.Xor.{◌⊕◌, bit, sel}
use Rattle.theory_laws.specs.Sum.{sum}
use Rattle.theory_laws.proofs.Numbers.{lt-pow}
use Rattle.theory_laws.proofs.Parity.{bit-same, bit-other}
use Rattle.theory_laws.proofs.Xor.{zero-⊕, ⊕-zero, ⊕_self, ⊕_assoc, ⊕_comm, ⊕_swap, ⊕-lt, ⊕-bit, ⊕-parts, ⊕-cancel}

pub sum-ext : (m : ℕ) {f g : ℕ → ℕ} → ((v : ℕ) → v < m → f v ≡ g v) → sum m f ≡ sum m g
unfolding sum
sum-ext zero h = refl
sum-ext (suc m) h = ap₂ ◌⊕◌ (sum-ext m (λ v k. h v (omega arith))) (h m (omega arith))

pub sum-zero : (m : ℕ) → sum m (λ v. 0) ≡ 0
unfolding sum
sum-zero zero = refl
sum-zero (suc m) = ⊕-zero (sum m (λ v. 0)) ∙ sum-zero m

pub sum-⊕ : (m : ℕ) (f g : ℕ → ℕ) → sum m (λ v. f v ⊕ g v) ≡ sum m f ⊕ sum m g
unfolding sum
sum-⊕ zero f g = sym (⊕_self 0)
sum-⊕ (suc m) f g = ap (λ x. x ⊕ (f m ⊕ g m)) (sum-⊕ m f g) ∙ ⊕_swap (sum m f) (sum m g) (f m) (g m)

-- an additive map goes inside
pub sum-map : (h : ℕ → ℕ) → ((a b : ℕ) → h (a ⊕ b) ≡ h a ⊕ h b) → (m : ℕ) (f : ℕ → ℕ) → h (sum m f) ≡ sum m (λ v. h (f v))
unfolding sum
sum-map h add zero f = ap h (sym (⊕_self 0)) ∙ add 0 0 ∙ ⊕_self (h 0)
sum-map h add (suc m) f = add (sum m f) (f m) ∙ ap (λ x. x ⊕ h (f m)) (sum-map h add m f)

-- by pairs: the even and the odd places
pub sum-double : (m : ℕ) (f : ℕ → ℕ) → sum (m * 2) f ≡ sum m (λ v. f (v * 2) ⊕ f (v * 2 + 1))
unfolding sum
sum-double zero f = refl
sum-double (suc m) f =
    ap (λ n. sum n f) e
    ∙ ⊕_assoc (sum (m * 2) f) (f (m * 2)) (f (suc (m * 2)))
    ∙ ap₂ ◌⊕◌ (sum-double m f) (ap (λ x. f (m * 2) ⊕ f x) (sym (add-one (m * 2))))
  where
    e : suc m * 2 ≡ suc (suc (m * 2))
    e = omega arith

-- two sums change places
pub sum_swap : (m n : ℕ) (f : ℕ → ℕ → ℕ) → sum m (λ a. sum n (λ b. f a b)) ≡ sum n (λ b. sum m (λ a. f a b))
unfolding sum
sum_swap zero n f = sym (sum-zero n)
sum_swap (suc m) n f = rw (sum_swap m n f) (sym (sum-⊕ n (λ b. sum m (λ a. f a b)) (f m)))

pub sum-split : (m k : ℕ) (f : ℕ → ℕ) → sum (m + k) f ≡ sum m f ⊕ sum k (λ b. f (m + b))
unfolding sum
sum-split m zero f = rw (add-zero m) (sym (⊕-zero (sum m f)))
sum-split m (suc k) f = rw (add-suc m k, sum-split m k f) (⊕_assoc (sum m f) (sum k (λ b. f (m + b))) (f (m + k)))

-- m rows of k
pub sum_rows : (m k : ℕ) (f : ℕ → ℕ) → sum (m * k) f ≡ sum m (λ v. sum k (λ b. f (v * k + b)))
unfolding sum
sum_rows zero k f = rw (zero-mul k)
sum_rows (suc m) k f = rw (suc-mul m k, sum-split (m * k) k f, sum_rows m k f)

pub sum-none : (m : ℕ) (f : ℕ → ℕ) → ((j : ℕ) → j < m → f j ≡ 0) → sum m f ≡ 0
sum-none m f h = sum-ext m h ∙ sum-zero m

-- a sum of which one term is not zero
pub sum-at : (m b : ℕ) (f : ℕ → ℕ) → b < m → ((j : ℕ) → j ≢ b → f j ≡ 0) → sum m f ≡ f b
unfolding sum
sum-at zero b f h z = absurd (omega arith)
sum-at (suc m) b f h z =
    ⊎_elim
    (λ e. ap₂ ◌⊕◌ (sum-none m f (λ j k. z j (omega arith))) (ap f (sym e)) ∙ zero-⊕ (f b))
    (λ l. ap₂ ◌⊕◌ (sum-at m b f l z) (z m (omega arith)) ∙ ⊕-zero (f b))
    (eq-or-lt_of_le {n = b} {m = m} (omega arith))

-- a sum of which only term x differs
pub sum_changed : (m x : ℕ) (f g : ℕ → ℕ) → x < m → ((y : ℕ) → y ≢ x → f y ≡ g y) → sum m g ≡ sum m f ⊕ (f x ⊕ g x)
sum_changed m x f g h e =
    sym (⊕-cancel (sum m f) (sum m g))
    ∙ ap (λ s. sum m f ⊕ s) (sym (sum-⊕ m f g) ∙ sum-at m x (λ y. f y ⊕ g y) h (λ y a. ap (λ z. z ⊕ g y) (e y a) ∙ ⊕_self (g y)))

pub sum_lt : (m k : ℕ) (f : ℕ → ℕ) → ((v : ℕ) → f v < 2 ^ k) → sum m f < 2 ^ k
unfolding sum
sum_lt zero k f h = pow_pos k
sum_lt (suc m) k f h = ⊕-lt k (sum m f) (f m) (sum_lt m k f h) (h m)

-- ---- a number and its bits

top_bit : (k w b : ℕ) → b < 2 → w % 2 ^ k ⊕ sel b (2 ^ k) ≡ b * 2 ^ k + w % 2 ^ k
unfolding sel
top_bit k w zero h = ⊕-zero (w % 2 ^ k) ∙ omega arith
top_bit k w (suc zero) h = ⊕_comm (w % 2 ^ k) (2 ^ k) ∙ ap (λ x. x ⊕ w % 2 ^ k) one ∙ ⊕-parts 1 k (w % 2 ^ k) (mod-lt w (pow_pos k))
  where
    one : 2 ^ k ≡ 1 * 2 ^ k
    one = omega arith
top_bit k w (suc (suc b)) h = absurd (omega arith)

-- the low k bits of w, one by one
pub sum-bits : (k w : ℕ) → sum k (λ j. sel (bit j w) (2 ^ j)) ≡ w % 2 ^ k
unfolding sum
sum-bits zero w = sym (mod-one w)
sum-bits (suc k) w =
    ap (λ x. x ⊕ sel (bit k w) (2 ^ k)) (sum-bits k w) ∙ top_bit k w (bit k w) (omega arith)
    ∙ sym (rw one-add at (mod-pow-add w 1 k))

pub word-bits : (k w : ℕ) → w < 2 ^ k → w ≡ sum k (λ j. sel (bit j w) (2 ^ j))
word-bits k w h = sym (sum-bits k w ∙ mod-eq_of_lt h)

-- past its last bit a number has none
pub bit_past : (n j v : ℕ) → v < 2 ^ n → n ≤ j → bit j v ≡ 0
bit_past n j v h l = ap (λ (x : ℕ). x % 2) (div-eq_of_lt (lt_of_lt_of_le h (pow_mono l)))

-- two numbers with the same bits are one
pub same_bits : (a b : ℕ) → ((j : ℕ) → bit j a ≡ bit j b) → a ≡ b
same_bits a b h =
    word-bits (a + b) a (omega (arith, lt-pow (a + b)))
    ∙ sum-ext (a + b) (λ j k. ap (λ (c : ℕ). sel c (2 ^ j)) (h j)) ∙ sym (word-bits (a + b) b (omega (arith, lt-pow (a + b))))

-- ---- the number whose bit j is b j

module _ (b : ℕ → ℕ) (hb : (j : ℕ) → b j < 2) where
  own_bit : (c k : ℕ) → c < 2 → bit k (sel c (2 ^ k)) ≡ c
  unfolding sel
  own_bit zero k h = ap (λ x. x % 2) (zero-div (2 ^ k))
  own_bit (suc zero) k h = bit-same k
  own_bit (suc (suc c)) k h = absurd (omega arith)

  other-bit : (c j k : ℕ) → j ≢ k → bit j (sel c (2 ^ k)) ≡ 0
  unfolding sel
  other-bit zero j k h = ap (λ x. x % 2) (zero-div (2 ^ j))
  other-bit (suc c) j k h = bit-other j k h

  below_next : (c k : ℕ) → sel c (2 ^ k) < 2 ^ suc k
  unfolding sel
  below_next zero k = pow_pos (suc k)
  below_next (suc c) k = pow-lt (omega arith)

  pub made-lt : (k : ℕ) → sum k (λ j. sel (b j) (2 ^ j)) < 2 ^ k
  unfolding sum
  made-lt zero = omega arith
  made-lt (suc k) = ⊕-lt (suc k) (sum k (λ j. sel (b j) (2 ^ j))) (sel (b k) (2 ^ k)) (omega (arith, made-lt k)) (below_next (b k) k)

  pub made-bit : (k j : ℕ) → j < k → bit j (sum k (λ j. sel (b j) (2 ^ j))) ≡ b j
  unfolding sum
  made-bit zero j h = absurd (omega arith)
  made-bit (suc k) j h =
      ⊕-bit (sum k (λ j. sel (b j) (2 ^ j))) (sel (b k) (2 ^ k)) j
      ∙ ⊎_elim
      (λ e. rw e (ap₂ ◌⊕◌ (ap (λ x. x % 2) (div-eq_of_lt (made-lt k))) (own_bit (b k) k (hb k)) ∙ zero-⊕ (b k)))
      (λ l. ap₂ ◌⊕◌ (made-bit k j l) (other-bit (b k) j k (omega arith)) ∙ ⊕-zero (b j))
      (eq-or-lt_of_le {n = j} {m = k} (omega arith))
