-- Tables for products by one fixed word r. They hold r times each number of b bits at each place, so that a product is the sum of
-- one entry for each window of b bits of the other factor. Rests on the field.
use Rattle.std.specs.Prelude.{◌≡◌, List, ℕ, ◌+◌, ◌*◌, ◌/◌, ◌%◌, ◌^◌, ◌≤◌, ◌<◌, length}
use Rattle.theory_laws.specs.Table.{at}
use Rattle.theory_field.specs.Field.{◌⊗◌}
use Rattle.theory_field.specs.Words.{words}

-- what entry k stands for in a table with windows of b bits: the number k % 2^b at place b × (k / 2^b)
unfoldable pub window : ℕ → ℕ → ℕ
window b k = k % 2 ^ b * 2 ^ (b * (k / 2 ^ b))

-- the first n entries are the products of r with what they stand for
abbrev pub Multiples : ℕ → ℕ → ℕ → List ℕ → Type 0
Multiples b n r ws = (k : ℕ) → k < n → at ws k ≡ r ⊗ window b k

-- a slice with room for any of the tables: 64 KiB
abbrev pub Room : List ℕ → Type 0
Room t = length t ≡ 8192

-- a slice that is a table for products by r, with windows of b bits, 64 / b to each half of the other factor
pub record Ready (b r : ℕ) (t : List ℕ) : Type 0 where
  pub some : 0 < b
  pub small : b < 64
  pub whole : b * (64 / b) ≡ 64
  pub room : 2 * ((64 / b + 64 / b) * 2 ^ b) ≤ length t
  pub holds : Multiples b ((64 / b + 64 / b) * 2 ^ b) r (words t)
