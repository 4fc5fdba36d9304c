-- phi_c (SPECIFICATION 2.5): a word evaluated under 128 row coefficients, and its laws.
use Rattle.std.specs.Prelude.{◌≡◌, ℕ, ◌^◌, ◌<◌}
use Rattle.theory_laws.specs.Xor.{◌⊕◌, bit, sel}
use Rattle.theory_laws.specs.Sum.{sum}

-- the sum of c[b] over the set bits b of w
unfoldable pub phi : (ℕ → ℕ) → ℕ → ℕ
phi c w = sum 128 (λ b. sel (bit b w) (c b))

-- f is the linear map with the values c: of a sum of two words it is the sum of both, and of the word x^b it is c[b]
pub record LinearMap (c f : ℕ → ℕ) : Type 0 where
  pub of_sum : (v w : ℕ) → v < 2 ^ 128 → w < 2 ^ 128 → f (v ⊕ w) ≡ f v ⊕ f w
  pub of_power : (b : ℕ) → b < 128 → f (2 ^ b) ≡ c b

-- phi is that map, for all coefficients, and no other function of words is (`phi-laws` of proofs/Phi)
pub record PhiLaws : Type 0 where
  pub linear : (c : ℕ → ℕ) → LinearMap c (phi c)
  pub no_other : (c f : ℕ → ℕ) → LinearMap c f → (w : ℕ) → w < 2 ^ 128 → f w ≡ phi c w
