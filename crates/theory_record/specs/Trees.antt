-- Level l's tree (SPECIFICATION 6.7): over the level's values, at the level's width, under level domain l. Rests on trees
-- under a digest function H, which is a variable.
use Rattle.std.specs.Prelude.{ℕ, zero, suc, ◌*◌, List, [], ◌++◌}
use Rattle.theory_laws.specs.Lists.{part, flat}
use Rattle.theory_merkle.specs.Tree.{group_of, tree_of, root_of, root_of_path, path_of}
use Rattle.theory_record.specs.Widths.{Widths, level_length, level_width}
use Rattle.theory_record.specs.Domain.{level_domain}
use Rattle.theory_record.specs.Scheme.{Scheme}

-- the values of the group that holds a place
unfoldable pub group_at : ℕ → ℕ → List ℕ → List ℕ
group_at width place values = part width (width * group_of place width) values

-- the path of the group that holds a place of level l, read off that level's tree
unfoldable pub path_at : Widths → ℕ → ℕ → ℕ → ℕ → List (List ℕ) → List (List ℕ)
path_at s n k l place tree = path_of (level_length n k l) (level_width s n k l) place tree

module _ (S : Scheme) (l : ℕ) where
  open S use {digest as H, widths as s, base, n, k}

  -- the tree over level l's values, as it is lent, and its root
  unfoldable pub tree_for : List ℕ → List (List ℕ)
  tree_for values = tree_of H (level_domain base l) (level_length n k l) (level_width s n k l) values

  unfoldable pub root_for : List ℕ → List ℕ
  root_for values = root_of H (level_domain base l) (level_length n k l) (level_width s n k l) values

  -- the root that the group of a place and a path lead to
  unfoldable pub leads_to : ℕ → List ℕ → List (List ℕ) → List ℕ
  leads_to place values path = root_of_path H (level_domain base l) (level_length n k l) (level_width s n k l) place values path

-- ---- levels 0 to n, their trees and their roots, as they are lent: end to end, level 0 first

-- f 0, .., f (m - 1) end to end
unfoldable pub end_to_end : ℕ → (ℕ → List ℕ) → List ℕ
end_to_end zero f = []
end_to_end (suc m) f = end_to_end m f ++ f m

abbrev pub levels_lent : ℕ → (ℕ → List ℕ) → List ℕ
levels_lent n levels = end_to_end (suc n) levels

module _ (S : Scheme) (levels : ℕ → List ℕ) where
  open S use {n}

  abbrev pub trees_lent : List ℕ
  trees_lent = end_to_end (suc n) (λ l. flat (tree_for S l (levels l)))

  abbrev pub roots_lent : List ℕ
  roots_lent = end_to_end (suc n) (λ l. root_for S l (levels l))
