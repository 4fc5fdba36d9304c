-- `put_path` meets its contract. The loop's invariant: storing the siblings that are left gives the final buffer.
use Rattle.tree_walk.proofs.Paths.{Level, path_left}
use Prim.Native.Nat.{◌≤◌, ◌+◌, ◌*◌}
use mathlib.Core.Path.{◌≡◌}
use lib.ListN.{length}
use Rattle.theory_laws.specs.Lists.{flat, stored}
use Rattle.tree_place.specs.Place.{number}
use Rattle.tree_walk.specs.helpers.Paths.{path_from}
use Rattle.tree_walk.proofs.put_path.Given as goal

abbrev pub invariant-loop-level : goal.invariant-loop-level
invariant-loop-level l =
    (Level l.depth l._level l.m (number l.g)) × (l.tree + 64 * l.m ≤ length l.trees + 32) × (l.at ≡ l.to + 32 * l._level) × (length l.out ≡ length l.initial.out)
    × (path_left l.out l.at l.depth l._level l.trees l.tree l.m (number l.g) ≡ stored l.initial.out l.to (flat (path_from l.depth l.trees l.from l.groups (number l.initial.g))))
