-- What is known once every question said yes, which the work behind them requires.
use Rattle.std.specs.Prelude.{◌≡◌, ℕ, ◌*◌, ◌^◌, ◌≤◌}

-- n coordinates, and the lengths of the packed words, of the point and of the room for a table, two u64 a word
pub record Sizes (n packed point table : ℕ) : Type 0 where
  pub coordinates : n ≤ 20
  pub of_packed : packed ≡ 2 * 2 ^ n
  pub of_point : point ≡ 2 * n
  pub of_table : table ≡ 2 * 2 ^ n
