-- `code_level_trees::all_trees` meets its contract.
use native.Mathlib.Omega.{arith}
use Rattle.code_level_trees.proofs.Growing.{first_made, first_starts}
use borrow.Author.Rules.{rules}
use Rattle.code_level_trees.proofs.all_trees.Goals as goal

pub put_tree-requires : goal.put_tree-requires
put_tree-requires c =
    let starts = first_starts c.args.deposit.how.set c.args.deposit.n c.args.deposit.k in
    record { room = c.requires.0; within = omega arith; from= = starts.0; at= = starts.1 }

pub level_trees-requires : goal.level_trees-requires
level_trees-requires c =
    let room = c.requires.0 in (
      record { small = room.small; base_le = room.base_le; levels_long = room.levels_long; trees_long = search rules },
      c.requires.1,
      first_made _ _ _ _ _ _ _ c.put_tree.ensures,
    )
