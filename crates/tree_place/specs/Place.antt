-- A place and a group of the code as numbers.
use Rattle.std.specs.Prelude.{ℕ}
use Rattle.tree_place.specs.declared.Place.{Place}
use Rattle.tree_place.specs.declared.Group.{Group}

-- the index of the value at a place
abbrev pub index : Place → ℕ
index place = place.0

-- the number of a group
abbrev pub number : Group → ℕ
number group = group.0
