-- Where a part of a fold fits.
use Rattle.std.specs.Prelude.{ℕ, ◌+◌, ◌/◌, ◌%◌, ◌≤◌, ◌≡◌}
use Rattle.field_runs.specs.Runs.{Paired}

-- the source has pairs at bit var, and the entries from `first` on, for which there is room, are among those of its fold
pub record PartFits (var first src out : ℕ) : Type 0 where
  pub paired : Paired var src
  pub whole : out % 2 ≡ 0
  pub within : first + out / 2 ≤ src / 4
