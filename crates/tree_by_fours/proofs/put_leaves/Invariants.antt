-- `tree_by_fours::put_leaves` meets its contract.
-- The loop's invariant: storing the leaves of the groups that are left gives the final buffer, and the messages' prefixes are kept.
use Prim.Native.Nat.{◌-◌, ◌+◌, ◌*◌}
use mathlib.Core.Path.{◌≡◌}
use lib.ListN.{drop}
use Rattle.theory_laws.specs.Lists.{runs, flat, stored}
use Rattle.theory_field.specs.Words.{words}
use Rattle.theory_blake3.specs.Modes.{under}
use Rattle.theory_merkle.specs.Message.{leaf_prefix}
use Rattle.theory_merkle.specs.Tree.{leaves_from}
use Rattle.tree_by_fours.proofs.Walk.{Walk}
use Rattle.tree_by_fours.proofs.put_leaves.Given as goal

abbrev pub invariant-loop-g : goal.invariant-loop-g
invariant-loop-g l =
    Walk l.hashing.mode (leaf_prefix l.hashing.domain.now l.fn.shape.count l.width) l.h l.prefix (24 + 16 * l.width) l.all l.groups l.g l.initial.out l.initial.messages l.out l.messages
    × (stored l.out (32 * l.g) (flat (leaves_from (under l.hashing.mode) l.hashing.domain.now l.fn.shape.count l.width (l.first + l.g) (runs l.width (l.all - l.g) (drop (l.width * l.g) (words l.values)))))
    ≡ stored l.initial.out 0 (flat (leaves_from (under l.hashing.mode) l.hashing.domain.now l.fn.shape.count l.width l.first (runs l.width l.all (words l.values)))))

abbrev pub decreases-loop-g : goal.decreases-loop-g
decreases-loop-g l = l.all - l.g
