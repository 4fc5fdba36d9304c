-- `code_level_trees::put_tree` meets its contract.
use Prim.Native.Nat.{ℕ, ◌+◌, ◌*◌, ◌≤◌}
use mathlib.Core.Path.{◌∙◌, ap}
use lib.ListN.{length}
use Rattle.code_levels.proofs.Slices.{length_of_part}
use Rattle.code_level_trees.proofs.Growing.{level-room, tree-room, length_of_middle, tree_put}
use borrow.Author.Rules.{rules}
use Rattle.code_level_trees.proofs.put_tree.Goals as goal
use Rattle.code_level_trees.proofs.put_tree.Goals.{After-level_length, After-tree_bytes}

-- the level is within the levels, and its tree within the trees
level-fits : (c : After-level_length) → c.args.from + 2 * c.level_length.result ≤ length c.args.levels.now
level-fits c =
    let p = c.requires in level-room _ _ _ p.within p.from= c.level_length.ensures p.room.levels_long

tree-fits : (c : After-tree_bytes) → (c.args.at + c.tree_bytes.result ≤ length c.args.trees.now) × (32 ≤ c.tree_bytes.result)
tree-fits c =
    let p = c.requires in tree-room _ _ _ _ p.within p.at= c.tree_bytes.ensures p.room.trees_long

pub overflow_add-end : goal.overflow_add-end
overflow_add-end c = let w = level-fits c in search rules

pub overflow_mul-end : goal.overflow_mul-end
overflow_mul-end c = let w = level-fits c in search rules

pub overflow_add-to : goal.overflow_add-to
overflow_add-to c = let w = tree-fits c in search rules

pub offset_bounds-levels-from : goal.offset_bounds-levels-from
offset_bounds-levels-from c = let w = (level-fits (goal.at.offset_bounds-levels-from c).After-level_length) in search rules

pub slice_bounds-build_level-end : goal.slice_bounds-build_level-end
slice_bounds-build_level-end c = let w = (level-fits (goal.at.slice_bounds-build_level-end c).After-level_length) in search rules

pub slice_bounds-build_level-end-2 : goal.slice_bounds-build_level-end-2
slice_bounds-build_level-end-2 c = let w = (tree-fits (goal.at.slice_bounds-build_level-end-2 c).After-tree_bytes) in search rules

pub build_level-requires : goal.build_level-requires
build_level-requires c =
    let p = c.requires in let size = c.level_length.ensures in record {
      small = p.room.small;
      level-le = p.within;
      base_le = p.room.base_le;
      values_are = length_of_part _ _ _ p.from= size _ (level-fits (goal.at.build_level-requires c).After-level_length) ∙ ap (λ (x : ℕ). 2 * x) size;
      tree_is = length_of_middle _ _ _ (tree-fits (goal.at.build_level-requires c).After-tree_bytes).0 ∙ c.tree_bytes.ensures;
    }

pub returns : goal.returns
returns c =
    let p = c.requires in tree_put _ _ _ _ _ _ _ p.from= c.level_length.ensures p.at= c.tree_bytes.ensures c.build_level.ensures
