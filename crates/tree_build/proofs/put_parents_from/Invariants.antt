-- `tree_build::put_parents_from` meets its contract.
-- The loop's invariant: storing the parents that are left gives the final buffer; the level below and the message's prefix are kept.
use Prim.Native.Nat.{◌-◌, ◌+◌, ◌*◌}
use mathlib.Core.Path.{◌≡◌}
use lib.ListN.{length, take, drop}
use Rattle.theory_laws.specs.Lists.{runs, flat, stored}
use Rattle.theory_blake3.specs.Modes.{under}
use Rattle.theory_merkle.specs.Message.{node_prefix}
use Rattle.theory_merkle.specs.Tree.{parents}
use Rattle.tree_build.proofs.put_parents_from.Given as goal

abbrev pub invariant-loop-j : goal.invariant-loop-j
invariant-loop-j l =
    (length l.tree ≡ length l.initial.tree) × (length l.message ≡ length l.initial.message)
    × (take l.prefix l.message ≡ node_prefix l.hashing.domain.now l.fn.level)
    × (take (l.from + 64 * l.half) l.tree ≡ take (l.from + 64 * l.half) l.initial.tree)
    × (stored l.tree (l.from + 64 * l.half + 32 * l.j) (flat (parents (under l.hashing.mode) l.hashing.domain.now l.fn.level (runs 32 (2 * (l.half - l.j)) (drop (l.from + 64 * l.j) l.initial.tree))))
    ≡ stored l.initial.tree (l.from + 64 * l.half + 32 * l.fn.done) (flat (parents (under l.hashing.mode) l.hashing.domain.now l.fn.level (runs 32 (2 * (l.half - l.fn.done)) (drop (l.from + 64 * l.fn.done) l.initial.tree)))))
