-- What is known once every question put to an equality table said yes, which the work behind them requires.
use Rattle.std.specs.Prelude.{◌≡◌, ℕ, ◌*◌, ◌^◌, ◌≤◌}

-- n coordinates, and the lengths of the lent point and of the lent table, two u64 a word
pub record Sizes (n point out : ℕ) : Type 0 where
  pub coordinates : n ≤ 20
  pub of_point : point ≡ 2 * n
  pub of_table : out ≡ 2 * 2 ^ n
