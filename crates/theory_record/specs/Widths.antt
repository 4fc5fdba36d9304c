-- The levels of a commitment (SPECIFICATION 6.7): their lengths, the widths of their groups, and the lengths of their paths. Rests on the
-- depth and the size of a tree.
use Rattle.std.specs.Prelude.{ℕ, zero, suc, ◌+◌, ◌-◌, ◌/◌, ◌^◌, leb}
use Rattle.theory_laws.specs.Questions.{pick}
use Rattle.theory_merkle.specs.Tree.{depth_of, tree_size}
use Rattle.theory_record.specs.declared.WidthSet.{WidthSet}

-- a set of widths: from the length `threshold` on a group has `width` values
pub record Widths : Type 0 where
  pub threshold : ℕ
  pub width : ℕ

-- the two that a deposit chooses from: the present one, 8 from length 16, and the wide one, 32 from length 64
unfoldable pub widths_of : WidthSet → Widths
widths_of WidthSet.Present = record { threshold = 16; width = 8 }
widths_of WidthSet.Wide = record { threshold = 64; width = 32 }

-- the largest width of the two
abbrev pub widest : ℕ
widest = 32

-- the width of the groups of a tree over this many values: the set's from its threshold on, 2 from length 2, else 1
unfoldable pub width_for : Widths → ℕ → ℕ
width_for s count = pick (leb s.threshold count) s.width (pick (leb 2 count) 2 1)

-- level l of a table of 2^n words under 2^k blocks has 2^(n + k - l) values; the last level is n
unfoldable pub level_length : ℕ → ℕ → ℕ → ℕ
level_length n k l = 2 ^ (n + k - l)

module _ (s : Widths) (n k l : ℕ) where
  -- the width of level l's groups
  unfoldable pub level_width : ℕ
  level_width = width_for s (level_length n k l)

  -- how many groups level l has
  unfoldable pub level_groups : ℕ
  level_groups = level_length n k l / level_width

  -- how many digests a path of level l's tree has, and how many its tree
  unfoldable pub level_depth : ℕ
  level_depth = depth_of (level_length n k l) level_width

  unfoldable pub tree_length : ℕ
  tree_length = tree_size (level_length n k l) level_width

-- a sum of numbers: f 0 + .. + f (m - 1)
unfoldable pub total : ℕ → (ℕ → ℕ) → ℕ
total zero f = 0
total (suc m) f = total m f + f m
