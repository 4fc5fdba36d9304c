-- What the parts of a level and of its tree are made from: a level that there is, its values, and room for a part.
use Rattle.std.specs.Prelude.{ℕ, suc, ◌+◌, ◌*◌, ◌/◌, ◌%◌, ◌≤◌, ◌<◌, ◌≡◌}
use Rattle.theory_record.specs.Widths.{Widths, level_length, level_groups}

pub record NextFits (n k l first values out : ℕ) : Type 0 where
  pub n_le : n ≤ 20
  pub k_le : k ≤ 4
  pub level-lt : l < n
  pub values_are : values ≡ 2 * level_length n k l
  pub whole : out % 2 ≡ 0
  pub within : first + out / 2 ≤ level_length n k (suc l)

pub record LeavesFit (s : Widths) (n k l base first values out : ℕ) : Type 0 where
  pub small : n + k ≤ 24
  pub level-le : l ≤ n
  pub base_le : base ≤ 200
  pub values_are : values ≡ 2 * level_length n k l
  pub whole : out % 32 ≡ 0
  pub within : first + out / 32 ≤ level_groups s n k l

pub record ParentsFit (l base children out : ℕ) : Type 0 where
  pub level-le : l ≤ 20
  pub base_le : base ≤ 200
  pub pairs : children % 64 ≡ 0
  pub out_is : out ≡ children / 2
