-- What each entry's number 0 settles: that every question has its yes. The functions that do the work require it.
use Rattle.std.specs.Prelude.{ℕ, ◌+◌, ◌*◌, ◌/◌, ◌%◌, ◌≤◌, ◌<◌, ◌≡◌}
use Rattle.theory_merkle.specs.Tree.{depth_of, tree_size}
use Rattle.theory_merkle.specs.Shape.{Bounded}

pub record LeafYes (domain count width place values : ℕ) : Type 0 where
  pub domain_le : domain ≤ 255
  pub shaped : Bounded count width
  pub placed : place < count
  pub values_is : values ≡ 2 * width

pub record NodeYes (domain l r : ℕ) : Type 0 where
  pub domain_le : domain ≤ 255
  pub left_is : l ≡ 32
  pub right_is : r ≡ 32

pub record BuildYes (domain count width values tree : ℕ) : Type 0 where
  pub domain_le : domain ≤ 255
  pub shaped : Bounded count width
  pub values_is : values ≡ 2 * count
  pub tree_is : tree ≡ 32 * tree_size count width

pub record LeavesYes (domain count width first values out : ℕ) : Type 0 where
  pub domain_le : domain ≤ 255
  pub shaped : Bounded count width
  pub within : first + out / 32 ≤ count / width
  pub values_is : values ≡ 2 * count
  pub whole : out % 32 ≡ 0

pub record ParentsYes (domain children out : ℕ) : Type 0 where
  pub domain_le : domain ≤ 255
  pub pairs : children % 64 ≡ 0
  pub out_is : out ≡ children / 2

pub record OpenYes (count width place tree path : ℕ) : Type 0 where
  pub shaped : Bounded count width
  pub placed : place < count
  pub tree_is : tree ≡ 32 * tree_size count width
  pub path-is : path ≡ 32 * depth_of count width

pub record RootYes (domain count width place values path : ℕ) : Type 0 where
  pub domain_le : domain ≤ 255
  pub shaped : Bounded count width
  pub placed : place < count
  pub path-is : path ≡ 32 * depth_of count width
  pub values_is : values ≡ 2 * width
