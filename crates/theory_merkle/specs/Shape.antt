-- What questions 8, 9 and 10 settle of a value count and a width.
use Rattle.std.specs.Prelude.{ℕ, ◌*◌, ◌/◌, ◌^◌, ◌≤◌, ◌<◌, ◌≡◌}
use Rattle.theory_merkle.specs.Tree.{depth_of}

-- 2^depth groups of width values each
pub record Shape (count width : ℕ) : Type 0 where
  pub filled : 0 < width
  pub some : 0 < count / width
  pub groups : count / width ≡ 2 ^ depth_of count width
  pub whole : count ≡ 2 ^ depth_of count width * width

-- and within the bounds of questions 8 and 9 (SPECIFICATION 8.2)
pub record Bounded (count width : ℕ) : Type 0 where
  pub shape : Shape count width
  pub count_le : count ≤ 2 ^ 24
  pub width-le : width ≤ 2 ^ 9
  pub groups_le : count / width ≤ 2 ^ 24
  pub depth_le : depth_of count width ≤ 24
