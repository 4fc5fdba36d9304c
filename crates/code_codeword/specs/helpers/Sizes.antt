-- What the helpers require of sizes and of lent lengths, in halves: what the questions have asked.
use Rattle.std.specs.Prelude.{◌≡◌, List, ℕ, ◌*◌, ◌^◌, ◌<◌, ◌≤◌, length}
use Rattle.theory_laws.specs.Table.{at}

-- k × n gammas
pub record ShiftSizes (n k gammas : ℕ) : Type 0 where
  pub n≤ : n ≤ 20
  pub k≤ : k ≤ 4
  pub gammas= : gammas ≡ 2 * (k * n)

-- a table of 2^n words, and k × n gammas
pub record EncodeSizes (n k table gammas : ℕ) : Type 0 where
  pub shifts : ShiftSizes n k gammas
  pub table= : table ≡ 2 * 2 ^ n

-- every number of a list is below a bound
abbrev pub Below : ℕ → List ℕ → Type 0
Below bound list = (i : ℕ) → i < length list → at list i < bound
