-- `tree_build::put_levels` meets its contract. The loop's invariant: storing the levels from this one on gives the whole tree.
use Prim.Native.Nat.{◌-◌, ◌+◌, ◌*◌, ◌^◌}
use mathlib.Core.Path.{◌≡◌}
use lib.ListN.{length, drop}
use Rattle.theory_laws.specs.Lists.{runs, flat, stored}
use Rattle.theory_blake3.specs.Modes.{under}
use Rattle.theory_merkle.specs.Tree.{levels_from, end_to_end}
use Rattle.tree_build.proofs.put_levels.Given as goal

abbrev pub invariant-loop-level : goal.invariant-loop-level
invariant-loop-level l =
    (l.m ≡ 2 ^ (l.depth - l.level)) × (l.from + 64 * l.m ≡ length l.tree + 32) × (length l.tree ≡ length l.initial.tree)
    × (stored l.tree l.from (flat (end_to_end (levels_from (under l.hashing.mode) l.hashing.domain.now (l.depth - l.level) l.level (runs 32 l.m (drop l.from l.tree)))))
    ≡ flat (end_to_end (levels_from (under l.hashing.mode) l.hashing.domain.now l.depth 0 (runs 32 l.fn.groups l.initial.tree))))
