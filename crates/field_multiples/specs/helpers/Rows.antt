-- How a table is filled, row by row, and each row by doubling. For the contracts of the helpers. Rests on the field.
use Rattle.std.specs.Prelude.{◌≡◌, List, ℕ, ◌+◌, ◌^◌, ◌<◌}
use Rattle.theory_laws.specs.Xor.{◌⊕◌}
use Rattle.theory_laws.specs.Table.{at}
use Rattle.theory_field.specs.Field.{◌⊗◌}

-- vs is ws with its m words from a place on, each plus d, copied n places on; what stands before the copies is as it was
pub record Copied (from n m d : ℕ) (ws vs : List ℕ) : Type 0 where
  pub before : (k : ℕ) → k < from + n → at vs k ≡ at ws k
  pub copies : (k : ℕ) → k < m → at vs (from + n + k) ≡ at ws (from + k) ⊕ d

-- vs is ws with the products of w and the numbers of b bits from a place on; what stands before is as it was
pub record Row (b from w : ℕ) (ws vs : List ℕ) : Type 0 where
  pub before : (k : ℕ) → k < from → at vs k ≡ at ws k
  pub products : (k : ℕ) → k < 2 ^ b → at vs (from + k) ≡ w ⊗ k
