-- `tree_by_fours::put_parents` meets its contract.
-- The loop's invariant: storing the parents that are left gives the final buffer; the level below and the messages' prefixes are kept.
use Prim.Native.Nat.{◌-◌, ◌+◌, ◌*◌}
use mathlib.Core.Path.{◌≡◌}
use lib.ListN.{take, drop}
use Rattle.theory_laws.specs.Lists.{runs, flat, stored}
use Rattle.theory_blake3.specs.Modes.{under}
use Rattle.theory_merkle.specs.Message.{node_prefix}
use Rattle.theory_merkle.specs.Tree.{parents}
use Rattle.tree_by_fours.proofs.Walk.{Walk}
use Rattle.tree_by_fours.proofs.put_parents.Given as goal

abbrev pub invariant-loop-j : goal.invariant-loop-j
invariant-loop-j l =
    Walk l.hashing.mode (node_prefix l.hashing.domain.now l.level) l.h l.prefix 80 l.all l.half l.j l.initial.tree l.initial.messages l.tree l.messages
    × (take (l.from + 64 * l.half) l.tree ≡ take (l.from + 64 * l.half) l.initial.tree)
    × (stored l.tree (l.from + 64 * l.half + 32 * l.j) (flat (parents (under l.hashing.mode) l.hashing.domain.now l.level (runs 32 (2 * (l.all - l.j)) (drop (l.from + 64 * l.j) l.initial.tree))))
    ≡ stored l.initial.tree (l.from + 64 * l.half) (flat (parents (under l.hashing.mode) l.hashing.domain.now l.level (runs 32 (2 * l.all) (drop l.from l.initial.tree)))))

abbrev pub decreases-loop-j : goal.decreases-loop-j
decreases-loop-j l = l.all - l.j
