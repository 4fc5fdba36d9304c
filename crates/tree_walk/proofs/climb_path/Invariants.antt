-- `climb_path` meets its contract. The loop's invariant: the way that is left from here leads to the same root.
use mathlib.Core.Path.{◌≡◌}
use lib.ListN.{length, drop}
use Rattle.theory_laws.specs.Lists.{runs}
use Rattle.theory_blake3.specs.Modes.{under}
use Rattle.theory_merkle.specs.Tree.{climb}
use Rattle.tree_place.specs.Place.{number}
use Rattle.tree_digest.specs.helpers.Begun.{NodesBegun}
use Rattle.tree_walk.proofs.Climb.{climb_from}
use Rattle.tree_walk.proofs.climb_path.Given as goal

abbrev pub invariant-loop-l : goal.invariant-loop-l
invariant-loop-l l =
    (length l.message ≡ 391) × (NodesBegun l.hashing.mode l.h l.hashing.domain.now l.message)
    × (climb_from (under l.hashing.mode) l.hashing.domain.now l.s l.from l.depth l.l (number l.g) l.d
    ≡ climb (under l.hashing.mode) l.hashing.domain.now 0 (number l.initial.g) l.initial.d (runs 32 l.depth (drop l.from l.s)))
