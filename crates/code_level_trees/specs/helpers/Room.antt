-- What is lent for the trees of all levels and their roots, end to end, and a level's tree among them. Rests on where levels and their trees
-- stand.
use Rattle.std.specs.Prelude.{ℕ, suc, ◌+◌, ◌*◌, ◌≤◌, ◌≡◌, List, ◌++◌, length, take, drop}
use Rattle.theory_laws.specs.Lists.{flat}
use Rattle.theory_field.specs.Words.{words}
use Rattle.theory_record.specs.Widths.{Widths, tree_length}
use Rattle.theory_record.specs.Trees.{tree_for}
use Rattle.theory_record.specs.Build.{level_start, levels_length, tree_start, level_values}
use Rattle.theory_record.specs.Scheme.{Scheme}

-- the bytes of level l's tree, of all levels in halves
abbrev pub tree_bytes : Scheme → List ℕ → ℕ → List ℕ
tree_bytes S levels l = flat (tree_for S l (level_values S.n S.k (words levels) l))

-- the trees of all levels, with that of level l, which starts at the byte `at`, made
abbrev pub tree_made : Scheme → ℕ → List ℕ → ℕ → List ℕ → List ℕ
tree_made S l levels at trees = take at trees ++ (tree_bytes S levels l ++ drop (32 * tree_start S.widths S.n S.k (suc l)) trees)

-- n, k and the base domain are within their ranges, all levels are there, in halves, and there is room for all trees, in bytes
pub record Room (s : Widths) (n k base levels trees : ℕ) : Type 0 where
  pub small : n + k ≤ 24
  pub base_le : base ≤ 200
  pub levels_long : levels ≡ 2 * levels_length n k
  pub trees_long : trees ≡ 32 * tree_start s n k (suc n)

-- and level l, which starts at the half `from`, is one of the levels; its tree starts at the byte `at`
pub record TreeRoom (s : Widths) (n k l base levels trees from at : ℕ) : Type 0 where
  pub room : Room s n k base levels trees
  pub within : l ≤ n
  pub from= : from ≡ 2 * level_start n k l
  pub at= : at ≡ 32 * tree_start s n k l

-- and level 0's tree is made, and there is room for the roots
abbrev pub FirstMade : Scheme → List ℕ → List ℕ → List ℕ → Type 0
FirstMade S levels trees roots =
    (Room S.widths S.n S.k (length S.base) (length levels) (length trees)) × (length roots ≡ 32 * (S.n + 1))
    × (take (32 * tree_length S.widths S.n S.k 0) trees ≡ tree_bytes S levels 0)
