-- A group of a level and its path put, each after its count: what is left, and what code needs to put them.
use Rattle.std.specs.Prelude.{ℕ, ◌+◌, ◌*◌, ◌^◌, ◌≤◌, ◌<◌, ◌≡◌, List, map}
use Rattle.theory_laws.specs.Lists.{part}
use Rattle.theory_field.specs.Words.{words}
use Rattle.bytes_numbers.specs.helpers.Put.{Put}
use Rattle.theory_record.specs.Format.{word_bytes, run_bytes}
use Rattle.tree_walk.specs.helpers.Paths.{path_from}

-- the values of group g of a level that begins at the word `first` of the lent levels, put after their count
abbrev pub ValuesPut : List ℕ → ℕ → List ℕ → ℕ → ℕ → ℕ → List ℕ → ℕ → Type 0
ValuesPut out from levels first width g out' r =
    Put out from (4 + 16 * width) (run_bytes (map word_bytes (part width (first + width * g) (words levels)))) out' r

-- the path of group g of 2^depth, read off their tree, which begins at this byte of the lent trees, put after its count
abbrev pub PathPut : List ℕ → ℕ → List ℕ → ℕ → ℕ → ℕ → ℕ → List ℕ → ℕ → Type 0
PathPut out from trees tree depth groups g out' r = Put out from (4 + 32 * depth) (run_bytes (path_from depth trees tree groups g)) out' r

-- the values are in what is lent, and fit
pub record ValuesRoom (out from levels first width g : ℕ) : Type 0 where
  pub values-there : 2 * (first + width * g + width) ≤ levels
  pub fits : from + (4 + 16 * width) ≤ out

-- and so the path
pub record PathRoom (out from trees tree depth groups g : ℕ) : Type 0 where
  pub groups_are : groups ≡ 2 ^ depth
  pub group_lt : g < groups
  pub tree_there : tree + 64 * groups ≤ trees + 32
  pub fits : from + (4 + 32 * depth) ≤ out
