-- What the entries of the code answer beside their numbers.
use Rattle.std.specs.Prelude.{ℕ, Result, Ok, Err, ◌-◌, ◌^◌, List, [], ◌∷◌, ◌++◌}
use Rattle.theory_laws.specs.Questions.{on_done}
use Rattle.theory_laws.specs.Refusals.{number_of}
use Rattle.theory_laws.specs.declared.Refusal.{Refusal}
use Rattle.theory_laws.specs.Table.{tab, at}
use Rattle.theory_field.specs.Words.{words}
use Rattle.theory_multilinear.specs.Folds.{dropped_at}
use Rattle.theory_multilinear.specs.Codeword.{shift, block, encode}

-- block eps of the codeword of a table: P(v + L(eps)) for v below 2^n
unfoldable pub block_of : ℕ → ℕ → List ℕ → ℕ → List ℕ → List ℕ
block_of n k gammas eps t = tab (2 ^ n) (block (shift n k gammas eps) (at t))

-- the codeword of a table, both as they are lent
abbrev pub encoded_of : ℕ → ℕ → List ℕ → List ℕ → List ℕ
encoded_of n k gammas table = encode n k (words gammas) (words table)

-- the number, and the n of the folded codeword, 0 where it refused
pub record Folded : Type 0 where
  pub number : ℕ
  pub n : ℕ

-- the answer of code, so read
abbrev pub folded : Result ℕ Refusal → Folded
folded (Ok m) = record { number = 0; n = m }
folded (Err e) = record { number = number_of e; n = 0 }

-- what `fold` answers: 0 and the new n, or the number of the refusal and 0
abbrev pub folded_of : ℕ → ℕ → Folded
folded_of n number = on_done number (record { number = 0; n = n - 1 }) (record { number = number; n = 0 })

-- what `fold` leaves of the list: without the entry of its variable, 0 after its end
unfoldable pub dropped_of : ℕ → List ℕ → List ℕ
dropped_of var coordinates = dropped_at var coordinates ++ 0 ∷ []
