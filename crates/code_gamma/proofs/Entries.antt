-- The gammas as the code reads them: j outer, one for each coordinate of each row.
use mathlib.Core.Path.{◌≡◌, ◌∙◌}
use mathlib.Core.List.{List}
use Prim.Native.Nat.{ℕ, ◌+◌, ◌*◌, ◌/◌, ◌%◌, ◌<◌}
use lib.Arith.{digits_lt, digits_div, digits_mod}
use lib.ListN.{length}
use Rattle.theory_laws.proofs.Table.{at-tab, length-tab}
use Rattle.theory_multilinear.specs.Codeword.{gamma}
use Rattle.theory_code.specs.Gammas.{gamma_of, gammas}

module _ (H : List ℕ → List ℕ) (domain : List ℕ) (n k : ℕ) where
  pub length-gammas : length (gammas H domain n k) ≡ k * n
  unfolding gammas
  length-gammas = length-tab (k * n) (λ v. gamma_of H domain n k (v / n) (v % n))

  -- the gamma of (j, i)
  pub gamma-is : (j i : ℕ) → j < k → i < n → gamma n (gammas H domain n k) j i ≡ gamma_of H domain n k j i
  unfolding gamma gammas
  gamma-is j i hj hi =
      at-tab (k * n) (λ v. gamma_of H domain n k (v / n) (v % n)) (j * n + i) (digits_lt hj hi) ∙ rw (digits_div j hi, digits_mod j hi)
