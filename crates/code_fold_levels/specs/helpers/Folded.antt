-- How far the levels are folded: those up to l stand end to end from the front of their buffer.
use Rattle.std.specs.Prelude.{ℕ, ◌*◌, ◌≤◌, ◌≡◌, List, length}
use Rattle.theory_field.specs.Words.{words}
use Rattle.theory_record.specs.Build.{level_start, levels_length, level_values}
use Rattle.code_fold_levels.specs.Levels.{folded_level}

-- level l starts at the half `from`; `old` was lent
pub record Folded (n k : ℕ) (challenges old : List ℕ) (l from : ℕ) (levels : List ℕ) : Type 0 where
  pub within : l ≤ n
  pub from= : from ≡ 2 * level_start n k l
  pub long : length levels ≡ 2 * levels_length n k
  pub each : (j : ℕ) → j ≤ l → level_values n k (words levels) j ≡ folded_level n k challenges old j
