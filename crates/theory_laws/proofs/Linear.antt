-- Additive maps: two that agree on the powers of two below 2^n agree below 2^n. So a map that is linear over two values is
-- known by n values, and those are one computed test (`below`).
use mathlib.Core.Path.{◌≡◌, sym, ap, ap₂, ◌∙◌}
use mathlib.Core.Bool.{Bool, true, false, ◌&&◌}
use mathlib.Core.Logic.{◌⊎◌, inl, inr, ⊎_elim}
use Prim.Native.Nat.{ℕ, zero, suc, ◌*◌, ◌/◌, ◌%◌, ◌^◌, ◌<◌, suc-le-suc}
use native.Mathlib.Nat.{mul_comm, pow-succ', div-add-mod'}
use native.Mathlib.Nat.{not-suc-le-zero, zero-lt-suc, le_of_suc-le-suc, eq-or-lt_of_le}
use native.Mathlib.Omega.{arith}
use mathlib.Core.List.{List, [], ◌∷◌}
use lib.Arith.{lt-one}
use lib.Bits.{bit_and}
use lib.Dec.{T}
use Rattle.theory_laws.specs.Xor.{◌⊕◌, sel}
use Rattle.theory_laws.proofs.Xor.{odd-cases, ⊕_self, ⊕_dbl, ⊕-parts, ⊕-mod, ⊕-shl, ⊕-shr, ⊕_swap, ⊕-half, sel-odd, and_⊕}

abbrev pub Additive : (ℕ → ℕ) → Type 0
Additive f = (a b : ℕ) → f (a ⊕ b) ≡ f a ⊕ f b

pub at_zero : (f : ℕ → ℕ) → Additive f → f 0 ≡ 0
at_zero f h = ap f (sym (⊕_self 0)) ∙ h 0 0 ∙ ⊕_self (f 0)

-- a number is its low bit and twice its half
pub digits : (v : ℕ) → v ≡ 2 * (v / 2) ⊕ v % 2
digits v = sym (ap (λ (x : ℕ). x ⊕ v % 2) (mul_comm 2 (v / 2)) ∙ ⊕-parts (v / 2) 1 (v % 2) (omega arith) ∙ div-add-mod' v 2)

pub ext : (n : ℕ) (f g : ℕ → ℕ) → Additive f → Additive g → ((i : ℕ) → i < n → f (2 ^ i) ≡ g (2 ^ i)) → (v : ℕ) → v < 2 ^ n → f v ≡ g v
ext zero f g hf hg h v l = ap f (lt-one l) ∙ at_zero f hf ∙ sym (at_zero g hg) ∙ ap g (sym (lt-one l))
ext (suc n) f g hf hg h v l =
    ap f (digits v) ∙ hf (2 * (v / 2)) (v % 2)
    ∙ ap₂ ◌⊕◌
    (ext n (λ x. f (2 * x)) (λ x. g (2 * x)) (λ a b. ap f (⊕_dbl a b) ∙ hf (2 * a) (2 * b)) (λ a b. ap g (⊕_dbl a b) ∙ hg (2 * a) (2 * b))
    (λ i k. ap f (sym (pow-succ' 2 i)) ∙ h (suc i) (suc-le-suc k) ∙ ap g (pow-succ' 2 i)) (v / 2) (omega arith))
    (low (odd-cases v))
    ∙ sym (hg (2 * (v / 2)) (v % 2)) ∙ ap g (sym (digits v))
  where
    low : (v % 2 ≡ 0) ⊎ (v % 2 ≡ 1) → f (v % 2) ≡ g (v % 2)
    low (inl e) = rw e (at_zero f hf ∙ sym (at_zero g hg))
    low (inr e) = rw e (h 0 (zero-lt-suc n))

-- a test at every number below n
abbrev pub all_below : ℕ → (ℕ → Bool) → Bool
all_below zero p = true
all_below (suc n) p = p n && all_below n p

pub and_l : (a b : Bool) → T (a && b) → T a
and_l true b t = tt
and_l false b t = absurd t

pub and_r : (a b : Bool) → T (a && b) → T b
and_r true b t = t
and_r false b t = absurd t

pub below : (n : ℕ) (p : ℕ → Bool) → T (all_below n p) → (i : ℕ) → i < n → T (p i)
below zero p t i h = absurd (not-suc-le-zero h)
below (suc n) p t i h =
    ⊎_elim (λ (e : i ≡ n). rw e (and_l (p n) (all_below n p) t)) (λ (k : i < n). below n p (and_r (p n) (all_below n p) t) i k)
    (eq-or-lt_of_le (le_of_suc-le-suc h))

-- ---- what is made of additive maps is additive

pub sum_additive : (f g : ℕ → ℕ) → Additive f → Additive g → Additive (λ v. f v ⊕ g v)
sum_additive f g hf hg a b = ap₂ ◌⊕◌ (hf a b) (hg a b) ∙ ⊕_swap (f a) (f b) (g a) (g b)

pub then_additive : (f g : ℕ → ℕ) → Additive f → Additive g → Additive (λ v. g (f v))
then_additive f g hf hg a b = ap g (hf a b) ∙ hg (f a) (f b)

pub shl_additive : (k : ℕ) → Additive (λ v. v * 2 ^ k)
shl_additive k a b = sym (⊕-shl k a b)

pub shr_additive : (k : ℕ) → Additive (λ v. v / 2 ^ k)
shr_additive k a b = ⊕-shr a b k

pub mod_additive : (k : ℕ) → Additive (λ v. v % 2 ^ k)
mod_additive k a b = ⊕-mod a b k

pub mask_additive : (m : ℕ) → Additive (λ v. bit_and v m)
mask_additive m a b = and_⊕ a b m

-- the shift of a k-bit number, as code does it
pub shl-mod_additive : (j k : ℕ) → Additive (λ v. v * 2 ^ j % 2 ^ k)
shl-mod_additive j k = then_additive (λ v. v * 2 ^ j) (λ v. v % 2 ^ k) (shl_additive j) (mod_additive k)

-- the additive map that takes 2^i to entry i of a list
unfoldable pub linear : List ℕ → ℕ → ℕ
linear [] v = 0
linear (c ∷ cs) v = sel (v % 2) c ⊕ linear cs (v / 2)

pub linear_additive : (cs : List ℕ) → Additive (linear cs)
unfolding linear
linear_additive [] a b = sym (⊕_self 0)
linear_additive (c ∷ cs) a b =
    ap₂ ◌⊕◌ (sel-odd a b c) (ap (linear cs) (⊕-half a b) ∙ linear_additive cs (a / 2) (b / 2))
    ∙ ⊕_swap (sel (a % 2) c) (sel (b % 2) c) (linear cs (a / 2)) (linear cs (b / 2))
