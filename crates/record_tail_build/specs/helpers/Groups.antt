-- The bytes of a group of the last level, as code puts them, and what it needs for that.
use Rattle.std.specs.Prelude.{ℕ, ◌+◌, ◌*◌, ◌^◌, ◌≤◌, ◌<◌, ◌≡◌, List, ◌++◌, map}
use Rattle.theory_laws.specs.Lists.{part, flat, le_bytes}
use Rattle.theory_field.specs.Words.{words}
use Rattle.bytes_numbers.specs.helpers.Put.{Put}
use Rattle.tree_walk.specs.helpers.Paths.{path_from}

-- how many bytes a group and its path take, each after its count
abbrev pub opening_size : ℕ → ℕ → ℕ
opening_size width depth = 8 + 16 * width + 32 * depth

-- the width, the values of group g, the depth, the path
unfoldable pub group_bytes : List ℕ → List ℕ → ℕ → ℕ → ℕ → ℕ → List ℕ
group_bytes values tree width depth groups g =
    le_bytes 4 width ++ flat (map (le_bytes 16) (part width (g * width) values)) ++ le_bytes 4 depth ++ flat (path_from depth tree 0 groups g)

-- what putting group g from a place of a buffer on leaves: its bytes, and the place after them
abbrev pub GroupPut : List ℕ → ℕ → List ℕ → List ℕ → ℕ → ℕ → ℕ → ℕ → List ℕ → ℕ → Type 0
GroupPut out from level tree width depth groups g out' end =
    Put out from (opening_size width depth) (group_bytes (words level) tree width depth groups g) out' end

-- group g stands in the lent level and its path in the lent tree, and both fit
pub record Room (out from level tree width depth groups g : ℕ) : Type 0 where
  pub width-le : width ≤ 16
  pub groups_are : groups ≡ 2 ^ depth
  pub groups_le : groups ≤ 16
  pub group_lt : g < groups
  pub values-there : 2 * (g * width + width) ≤ level
  pub small : g * width ≤ 16
  pub tree_there : 64 * groups ≤ tree + 32
  pub fits : from + opening_size width depth ≤ out
