-- `tree_build::put_leaves_from` meets its contract.
-- The loop's invariant: storing the leaves of the groups that are left gives the final buffer, and the message's prefix is kept.
use Prim.Native.Nat.{◌-◌, ◌+◌, ◌*◌}
use mathlib.Core.Path.{◌≡◌}
use lib.ListN.{length, take, drop}
use Rattle.theory_laws.specs.Lists.{runs, flat, stored}
use Rattle.theory_field.specs.Words.{words}
use Rattle.theory_blake3.specs.Modes.{under}
use Rattle.theory_merkle.specs.Message.{leaf_prefix}
use Rattle.theory_merkle.specs.Tree.{leaves_from}
use Rattle.tree_build.proofs.put_leaves_from.Given as goal

abbrev pub invariant-loop-g : goal.invariant-loop-g
invariant-loop-g l =
    (length l.out ≡ length l.initial.out) × (length l.message ≡ length l.initial.message)
    × (take l.prefix l.message ≡ leaf_prefix l.hashing.domain.now l.fn.shape.count l.width)
    × (stored l.out (32 * l.g) (flat (leaves_from (under l.hashing.mode) l.hashing.domain.now l.fn.shape.count l.width (l.first + l.g) (runs l.width (l.groups - l.g) (drop (l.width * l.g) (words l.values)))))
    ≡ stored l.initial.out (32 * l.fn.done) (flat (leaves_from (under l.hashing.mode) l.hashing.domain.now l.fn.shape.count l.width (l.first + l.fn.done) (runs l.width (l.groups - l.fn.done) (drop (l.width * l.fn.done) (words l.values))))))
