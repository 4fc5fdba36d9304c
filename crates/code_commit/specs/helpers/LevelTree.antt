-- What a level's tree is built from: a level that there is, its values, two halves each, and room for its tree, in bytes.
use Rattle.std.specs.Prelude.{ℕ, ◌+◌, ◌*◌, ◌≤◌, ◌≡◌}
use Rattle.theory_record.specs.Widths.{Widths, level_length, tree_length}

pub record LevelTree (s : Widths) (n k l base values tree : ℕ) : Type 0 where
  pub small : n + k ≤ 24
  pub level-le : l ≤ n
  pub base_le : base ≤ 200
  pub values_are : values ≡ 2 * level_length n k l
  pub tree_is : tree ≡ 32 * tree_length s n k l
