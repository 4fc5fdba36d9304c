-- The ranges of n and k that question 4 asks of records, as facts.
use Prim.Native.Nat.{ℕ, ◌+◌, ◌≤◌}
use mathlib.Core.Path.{◌≡◌}
use mathlib.Core.Bool.{true}
use native.Mathlib.Omega.{arith}
use borrow.Author.Tests.{leb-true, le-leb}
use lib.Dec.{leb}
pub use Rattle.theory_record.specs.Accepted.{SizesFit}

-- the answers to size_questions, before the answers R to what else is asked
abbrev pub SizesSaid : ℕ → ℕ → Type 0 → Type 0
SizesSaid n k R = (leb n 20 ≡ true) × ((leb k 4 ≡ true) × ((leb 1 n ≡ true) × R))

module _ (n k : ℕ) {R : Type 0} where
  pub sizes_fit : SizesSaid n k R → SizesFit n k × R
  sizes_fit y = (record { n_most = leb-true n 20 y.0; k_most = leb-true k 4 y.1.0; n_least = leb-true 1 n y.1.1.0 }, y.1.1.1)

  pub fit_sizes : SizesFit n k → R → SizesSaid n k R
  fit_sizes h y = (le-leb n 20 h.n_most, (le-leb k 4 h.k_most, (le-leb 1 n h.n_least, y)))

pub sizes-small : (n k : ℕ) → SizesFit n k → n + k ≤ 24
sizes-small n k h = omega arith
