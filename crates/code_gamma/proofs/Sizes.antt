-- Sizes and lengths: what the questions of `derive`, all answered yes, say of them.
use mathlib.Core.Path.{◌≡◌, sym, ◌∙◌}
use mathlib.Core.List.{[], ◌∷◌}
use Prim.Native.Nat.{ℕ, zero, suc, ◌*◌, ◌≤◌, ◌<◌}
use native.Mathlib.Nat.{mul-zero}
use native.Mathlib.Omega.{arith}
use borrow.Author.Tests.{leb-true, eqb-true}
use lib.Dec.{leb}
use Rattle.theory_laws.specs.Questions.{◌asks◌}
use Rattle.theory_laws.proofs.Questions.{all_yes}
use Rattle.theory_code.specs.Questions.{sized, lent}
use Rattle.code_codeword.proofs.Lengths.{gammas_fit}
use Rattle.theory_code.specs.Questions.{derive_number}

pub derive_sizes : (n k domain out number : ℕ) → number ≡ derive_number n k domain out → number ≡ 0
    → (domain ≤ 200) × (k * n ≤ 80) × (out ≡ 2 * (k * n))
unfolding derive_number
derive_sizes n k domain out number e z =
    let y = all_yes (sized n k (lent out (k * n) ∷ (7 asks leb domain 200) ∷ [])) tt (sym e ∙ z) in
    (leb-true domain 200 y.1.1.1.0, gammas_fit (leb-true n 20 y.0) (leb-true k 4 y.1.0), eqb-true out (2 * (k * n)) y.1.1.0)

-- a product that is not 0 has no factor 0
pub factor_positive : (k n v : ℕ) → v < k * n → 0 < n
factor_positive k zero v h = absurd (omega (arith, mul-zero k))
factor_positive k (suc n) v h = omega arith
