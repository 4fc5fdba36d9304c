-- phi_c is the linear map with the values c, and no other function of words is; a product goes by the bits of its first factor.
use mathlib.Core.Path.{◌≡◌, refl, sym, ap, ◌∙◌, fun_ext}
use Prim.Native.Nat.{ℕ, zero, suc, ◌%◌, ◌^◌, ◌<◌}
use native.Mathlib.Nat.{mod-lt, mod-eq_of_lt}
use lib.Dec.{lit<}
use lib.Pow.{pow-lt, pow_pos}
use Rattle.theory_laws.specs.Xor.{◌⊕◌, bit, sel}
use Rattle.theory_laws.specs.Sum.{sum}
use Rattle.theory_laws.proofs.Xor.{⊕-mod, sel-bit, sel-lt}
use Rattle.theory_laws.proofs.Sum.{sum-⊕, sum-map, sum-at, sum_lt, sum-bits}
use Rattle.theory_laws.proofs.Parity.{bit-same, bit-other}
use Rattle.theory_laws.proofs.Linear.{Additive, at_zero, ext}
use Rattle.theory_field.specs.Field.{◌⊗◌}
use Rattle.theory_field.proofs.Product.{⊕-⊗, mod-⊗, ⊗_comm, ⊗-sel}
use Rattle.theory_multilinear.specs.Phi.{phi, LinearMap, PhiLaws}

-- of a sum of two words it is the sum of both (SPECIFICATION 2.5)
pub phi-add : (c : ℕ → ℕ) (a b : ℕ) → phi c (a ⊕ b) ≡ phi c a ⊕ phi c b
unfolding phi
phi-add c a b = ap (sum _) (fun_ext (λ i. sel-bit i a b (c i))) ∙ sum-⊕ _ (λ i. sel (bit i a) (c i)) (λ i. sel (bit i b) (c i))

-- of the word x^b it is c[b] (SPECIFICATION 2.5)
pub phi_power : (c : ℕ → ℕ) (b : ℕ) → b < 128 → phi c (2 ^ b) ≡ c b
unfolding phi sel
phi_power c b h =
    sum-at _ b (λ i. sel (bit i (2 ^ b)) (c i)) h (λ i a. ap (λ x. sel x (c i)) (bit-other i b a)) ∙ ap (λ x. sel x (c b)) (bit-same b)

-- both laws, of words
phi-linear : (c : ℕ → ℕ) → LinearMap c (phi c)
phi-linear c = record { of_sum = λ v w h k. phi-add c v w; of_power = phi_power c }

-- nothing else has them: two additive maps that agree on the powers of x agree, and what f is past the words is not asked
phi_no_other : (c f : ℕ → ℕ) → LinearMap c f → (w : ℕ) → w < 2 ^ 128 → f w ≡ phi c w
phi_no_other c f m w h =
    ap f (sym (mod-eq_of_lt h))
    ∙ ext 128 (λ x. f (x % 2 ^ 128)) (phi c) sums (phi-add c)
    (λ b k. ap f (mod-eq_of_lt (pow-lt {i = b} {j = 128} k)) ∙ m.of_power b k ∙ sym (phi_power c b k)) w h
  where
    sums : Additive (λ x. f (x % 2 ^ 128))
    sums v w =
        ap f (⊕-mod v w 128) ∙ m.of_sum (v % 2 ^ 128) (w % 2 ^ 128) (mod-lt v (pow_pos 128)) (mod-lt w (pow_pos 128))

pub phi_laws : PhiLaws
phi_laws = record { linear = phi-linear; no_other = phi_no_other }

pub phi-one : (c : ℕ → ℕ) → phi c 1 ≡ c 0
phi-one c = phi_power c 0 (lit< tt)

pub phi-zero : (c : ℕ → ℕ) → phi c 0 ≡ 0
phi-zero c = at_zero (phi c) (phi-add c)

pub phi-sum : (c : ℕ → ℕ) (m : ℕ) (f : ℕ → ℕ) → phi c (sum m f) ≡ sum m (λ v. phi c (f v))
phi-sum c = sum-map (phi c) (phi-add c)

pub phi-sel : (c : ℕ → ℕ) (b x : ℕ) → phi c (sel b x) ≡ sel b (phi c x)
unfolding sel
phi-sel c zero x = phi-zero c
phi-sel c (suc b) x = refl

pub phi-lt : (c : ℕ → ℕ) → ((i : ℕ) → c i < 2 ^ 128) → (w : ℕ) → phi c w < 2 ^ 128
unfolding phi
phi-lt c h w = sum_lt 128 128 (λ i. sel (bit i w) (c i)) (λ i. sel-lt (bit i w) 128 (c i) (h i))

-- a choice by a bit goes through a product, from its left too
pub sel-⊗ : (b x y : ℕ) → sel b x ⊗ y ≡ sel b (x ⊗ y)
sel-⊗ b x y = ⊗_comm (sel b x) y ∙ ⊗-sel b y x ∙ ap (sel b) (⊗_comm y x)

-- a product, bit by bit of its first factor: only the 128 low bits count
pub word-times : (w x : ℕ) → w ⊗ x ≡ sum 128 (λ j. sel (bit j w) (2 ^ j ⊗ x))
word-times w x =
    sym (mod-⊗ w x)
    ∙ ap (λ y. y ⊗ x) (sym (sum-bits 128 w))
    ∙ sum-map (λ y. y ⊗ x) (λ a b. ⊕-⊗ a b x) 128 (λ j. sel (bit j w) (2 ^ j))
    ∙ ap (sum 128) (fun_ext (λ j. sel-⊗ (bit j w) (2 ^ j) x))
