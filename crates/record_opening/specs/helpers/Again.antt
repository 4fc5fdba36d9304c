-- What is asked of two openings that stand in one record with the same bytes, and what it says.
use Rattle.std.specs.Prelude.{ℕ, ◌*◌, ◌/◌, ◌≡◌, true, List, drop}
use Rattle.theory_record.specs.Format.{run_count, run_fits}
use Rattle.record_reader.specs.declared.Opening.{Opening}
use Rattle.record_opening.specs.helpers.Opening.{values_at, digests_at}

-- the known group and path are all there, of this width and depth
pub record SizedOld (s : List ℕ) (old : Opening) (width depth : ℕ) : Type 0 where
  pub group_fits : run_fits 16 (drop old.group_at s) ≡ true
  pub path_fits : run_fits 32 (drop old.path_at s) ≡ true
  pub width_is : run_count (drop old.group_at s) ≡ width
  pub depth_is : run_count (drop old.path_at s) ≡ depth

-- a group and a path at two bytes of s are all there, the width is even, and so is what is known
abbrev pub OldThere : List ℕ → ℕ → ℕ → Opening → ℕ → ℕ → Type 0
OldThere s group path old width depth =
    (run_fits 16 (drop group s) ≡ true) × (run_fits 32 (drop path s) ≡ true) × (width ≡ 2 * (width / 2)) × SizedOld s old width depth

-- the values and digests of an opening are those at two bytes of s
pub record Same (s : List ℕ) (group path : ℕ) (old : Opening) : Type 0 where
  pub values_same : values_at s group ≡ values_at s old.group_at
  pub digests_same : digests_at s path ≡ digests_at s old.path_at
