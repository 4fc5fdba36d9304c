-- Strings as the bits of numbers: every string of bits is that of one number below 2^n, sums are sums, and a shift to the right doubles.
use mathlib.Core.Path.{◌≡◌, refl, sym, ap, ap₂, ◌∙◌}
use mathlib.Core.List.{List, [], ◌∷◌, ◌++◌}
use Prim.Native.Nat.{ℕ, zero, suc, ◌+◌, ◌-◌, ◌*◌, ◌/◌, ◌%◌, ◌^◌, ◌≤◌, ◌<◌}
use native.Mathlib.Nat.{mod-one, pow-suc, zero-div, div-one}
use native.Mathlib.Omega.{arith}
use lib.ListN.{length, take}
use lib.Seq.{length-take-le, get_or-take}
use Rattle.theory_laws.specs.Xor.{◌⊕◌, bit}
use Rattle.theory_laws.specs.Table.{tab, at}
use Rattle.theory_laws.proofs.Parity.{low_bit, low_half, high_half, mod-double}
use Rattle.theory_laws.proofs.Table.{length-tab, at-tab, tab-ext, is-tab}
use Rattle.theory_laws.proofs.Xor.{⊕_self, ⊕-block, ⊕-half, ⊕-odd}
use Rattle.theory_gcm.specs.Strings.{◌⊻◌, shifted_right, rightmost, number_of, bits_of}

-- ---- numbers and their bits

pub length-bits_of : (n w : ℕ) → length (bits_of n w) ≡ n
unfolding bits_of
length-bits_of n w = length-tab n (λ i. bit i w)

pub at-bits_of : (n w i : ℕ) → i < n → at (bits_of n w) i ≡ bit i w
unfolding bits_of
at-bits_of n w i h = at-tab n (λ i. bit i w) i h

-- the leftmost bit, and the others
pub bits_of-suc : (n w : ℕ) → bits_of (suc n) w ≡ w % 2 ∷ bits_of n (w / 2)
unfolding bits_of tab
bits_of-suc n w =
    ap₂ (λ (b : ℕ) (x : List ℕ). b ∷ x) (ap (λ (x : ℕ). x % 2) (div-one w)) (tab-ext n (λ i h. ap (λ (x : ℕ). x % 2) (sym (high_half w i))))

-- what stands above them does not show in them
pub bits_of-mod : (n w : ℕ) → bits_of n (w % 2 ^ n) ≡ bits_of n w
bits_of-mod zero w = unfold bits_of tab in refl
bits_of-mod (suc n) w =
    bits_of-suc n (w % 2 ^ suc n)
    ∙ ap₂ (λ (b : ℕ) (x : List ℕ). b ∷ x) (low_bit w n) (ap (bits_of n) (low_half w n) ∙ bits_of-mod n (w / 2))
    ∙ sym (bits_of-suc n w)

pub bit-mod : (n w i : ℕ) → i < n → bit i (w % 2 ^ n) ≡ bit i w
bit-mod n w i h = sym (at-bits_of n (w % 2 ^ n) i h) ∙ ap (λ (x : List ℕ). at x i) (bits_of-mod n w) ∙ at-bits_of n w i h

pub take-bits_of : (m n w : ℕ) → m ≤ n → take m (bits_of n w) ≡ bits_of m w
unfolding bits_of
take-bits_of m n w h =
    is-tab (take m (bits_of n w)) m (λ i. bit i w) (length-take-le m (bits_of n w) (omega (arith, length-bits_of n w)))
    (λ i k. get_or-take m (bits_of n w) i 0 k ∙ at-bits_of n w i (omega arith))

pub number_of-bits_of : (n w : ℕ) → number_of (bits_of n w) ≡ w % 2 ^ n
unfolding number_of
number_of-bits_of zero w = unfold bits_of tab in sym (mod-one w)
number_of-bits_of (suc n) w =
    ap number_of (bits_of-suc n w) ∙ ap (λ (x : ℕ). x * 2 + w % 2) (number_of-bits_of n (w / 2)) ∙ sym (mod-double w n)

-- bit i of the number of a string is its bit i
pub bit-number_of : (x : List ℕ) → ((i : ℕ) → at x i < 2) → (i : ℕ) → bit i (number_of x) ≡ at x i
unfolding number_of
bit-number_of [] h i = ap (λ (v : ℕ). v % 2) (zero-div (2 ^ i))
bit-number_of (b ∷ x) h zero = last (number_of x) b (h 0)
  where
    last : (m b : ℕ) → b < 2 → (m * 2 + b) / 1 % 2 ≡ b
    last m b k = omega arith
bit-number_of (b ∷ x) h (suc i) =
    ap (λ (v : ℕ). v % 2) (sym (high_half (number_of x * 2 + b) i) ∙ ap (λ (v : ℕ). v / 2 ^ i) (above (number_of x) b (h 0)))
    ∙ bit-number_of x (λ j. h (suc j)) i
  where
    above : (m b : ℕ) → b < 2 → (m * 2 + b) / 2 ≡ m
    above m b k = omega arith

-- a string of n bits is the bits of its number
pub bits_of-number_of : (n : ℕ) (x : List ℕ) → length x ≡ n → ((i : ℕ) → at x i < 2) → bits_of n (number_of x) ≡ x
unfolding bits_of
bits_of-number_of n x e h = sym (is-tab x n (λ i. bit i (number_of x)) e (λ i k. sym (bit-number_of x h i)))

pub number_of-lt : (n : ℕ) (x : List ℕ) → length x ≡ n → ((i : ℕ) → at x i < 2) → number_of x < 2 ^ n
unfolding number_of
number_of-lt zero [] e h = omega arith
number_of-lt zero (b ∷ x) e h = absurd (omega arith)
number_of-lt (suc n) [] e h = absurd (omega arith)
number_of-lt (suc n) (b ∷ x) e h = omega (arith, number_of-lt n x (omega arith) (λ i. h (suc i)), h 0, pow-suc 2 n)

-- a string in two parts
pub number_of-append : (x y : List ℕ) → number_of (x ++ y) ≡ number_of y * 2 ^ length x + number_of x
unfolding number_of
number_of-append [] y = omega arith
number_of-append (b ∷ x) y = rw (number_of-append x y, pow-suc 2 (length x)) (omega arith)

-- a string that is the sum of two, bit by bit
pub number_of-⊕ : (n : ℕ) (f g : ℕ → ℕ) → ((i : ℕ) → f i < 2) → ((i : ℕ) → g i < 2)
    → number_of (tab n (λ i. f i ⊕ g i)) ≡ number_of (tab n f) ⊕ number_of (tab n g)
unfolding number_of tab
number_of-⊕ zero f g hf hg = sym (⊕_self 0)
number_of-⊕ (suc n) f g hf hg =
    let rest = number_of-⊕ n (λ i. f (suc i)) (λ i. g (suc i)) (λ i. hf (suc i)) (λ i. hg (suc i)) in
    ap (λ (x : ℕ). x * 2 + (f 0 ⊕ g 0)) rest
    ∙ sym (⊕-block 1 (number_of (tab n (λ i. f (suc i)))) (number_of (tab n (λ i. g (suc i)))) (f 0) (g 0) (hf 0) (hg 0))

-- ---- the operations

pub ⊻-bits_of : (n a b : ℕ) → bits_of n a ⊻ bits_of n b ≡ bits_of n (a ⊕ b)
unfolding ◌⊻◌
⊻-bits_of zero a b = unfold bits_of tab in refl
⊻-bits_of (suc n) a b =
    ap₂ ◌⊻◌ (bits_of-suc n a) (bits_of-suc n b)
    ∙ ap₂ (λ (c : ℕ) (x : List ℕ). c ∷ x) (sym (⊕-odd a b)) (⊻-bits_of n (a / 2) (b / 2) ∙ ap (bits_of n) (sym (⊕-half a b)))
    ∙ sym (bits_of-suc n (a ⊕ b))

pub shifted_right-bits_of : (n w : ℕ) → shifted_right (bits_of n w) ≡ bits_of n (2 * w)
unfolding shifted_right
shifted_right-bits_of zero w = unfold bits_of tab in refl
shifted_right-bits_of (suc n) w =
    ap (λ (m : ℕ). take m (0 ∷ bits_of (suc n) w)) (length-bits_of (suc n) w)
    ∙ ap₂ (λ (b : ℕ) (x : List ℕ). b ∷ x) even (take-bits_of n (suc n) w (omega arith) ∙ ap (bits_of n) half)
    ∙ sym (bits_of-suc n (2 * w))
  where
    even : 0 ≡ 2 * w % 2
    even = omega arith

    half : w ≡ 2 * w / 2
    half = omega arith

pub rightmost-bits_of : (n w : ℕ) → rightmost (bits_of (suc n) w) ≡ bit n w
unfolding rightmost
rightmost-bits_of n w =
    let e : suc n - 1 ≡ n = omega arith in
    ap (λ (m : ℕ). at (bits_of (suc n) w) (m - 1)) (length-bits_of (suc n) w) ∙ ap (at (bits_of (suc n) w)) e ∙ at-bits_of (suc n) w n (omega arith)
