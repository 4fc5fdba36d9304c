-- `code_level_trees::level_trees` meets its contract: the trees and roots below l are made.
use mathlib.Core.Path.{sym, ◌∙◌}
use native.Mathlib.Omega.{arith}
use Rattle.code_level_trees.proofs.Growing.{first-room, first-tree-room, begun, level-room, tree-room, grown-more, all_trees, all_roots}
use borrow.Author.Rules.{rules}
use Rattle.code_level_trees.proofs.level_trees.Goals as goal

pub level_length-from-requires : goal.level_length-from-requires
level_length-from-requires c =
    (c.requires.0.small, omega arith)

pub overflow_mul-from : goal.overflow_mul-from
overflow_mul-from c =
    let w = first-room _ _ c.level_length-from.ensures c.requires.0.levels_long in
    search rules

pub tree_bytes-at-requires : goal.tree_bytes-at-requires
tree_bytes-at-requires c =
    (c.requires.0.small, omega arith)

pub put_root-place-requires : goal.put_root-place-requires
put_root-place-requires c =
    let t = first-tree-room _ _ _ c.tree_bytes-at.ensures c.requires.0.trees_long in
    (t.1, t.0, omega (arith, c.requires.1))

pub loop-l-init : goal.loop-l-init
loop-l-init c =
    let p = c.requires in begun _ _ _ _ _ c.level_length-from.ensures c.tree_bytes-at.ensures p.0.trees_long p.1 c.put_root-place.auto.roots p.2
    c.put_root-place.ensures

pub put_tree-requires : goal.put_tree-requires
put_tree-requires c =
    let p = c.requires in let g = c.loop-l.invariant in record {
      room = record { small = p.0.small; base_le = p.0.base_le; levels_long = p.0.levels_long; trees_long = g.trees_long };
      within = omega arith;
      from= = g.from=;
      at= = g.at=;
    }

pub level_length-requires : goal.level_length-requires
level_length-requires c =
    (c.requires.0.small, omega arith)

pub overflow_add-from : goal.overflow_add-from
overflow_add-from c =
    let g = c.loop-l.invariant in let w = level-room _ _ _ (omega arith) g.from= c.level_length.ensures c.requires.0.levels_long in
    search rules

pub overflow_mul-from-in-loop-l : goal.overflow_mul-from-in-loop-l
overflow_mul-from-in-loop-l c =
    let g = c.loop-l.invariant in
    let w = level-room _ _ _ (omega arith) g.from= c.level_length.ensures c.requires.0.levels_long in
    search rules

pub tree_bytes-at-requires-in-loop-l : goal.tree_bytes-at-requires-in-loop-l
tree_bytes-at-requires-in-loop-l c =
    (c.requires.0.small, omega arith)

pub overflow_add-at : goal.overflow_add-at
overflow_add-at c =
    let g = c.loop-l.invariant in let w = tree-room _ _ _ _ (omega arith) g.at= c.tree_bytes-at-in-loop-l.ensures c.requires.0.trees_long in
    search rules

pub put_root-place-requires-in-loop-l : goal.put_root-place-requires-in-loop-l
put_root-place-requires-in-loop-l c =
    let g = c.loop-l.invariant in let t = tree-room _ _ _ _ (omega arith) g.at= c.tree_bytes-at-in-loop-l.ensures g.trees_long in
    (omega arith, search rules, omega (arith, g.place=, g.roots_long))

pub loop-l-preserved : goal.loop-l-preserved
loop-l-preserved c =
    grown-more _ _ _ _ _ c.loop-l.invariant (omega arith) c.level_length.ensures c.tree_bytes-at-in-loop-l.ensures
    c.put_tree.ensures c.put_tree.auto.trees c.put_root-place-in-loop-l.auto.roots c.put_root-place-in-loop-l.ensures

pub shape_of-trees : goal.shape_of-trees
shape_of-trees c = c.loop-l.invariant.trees_long ∙ sym c.requires.0.trees_long

pub shape_of-roots : goal.shape_of-roots
shape_of-roots c = c.loop-l.invariant.roots_long ∙ sym c.requires.1

pub returns : goal.returns
returns c = let g = c.loop-l.invariant in record { trees_after = all_trees _ _ _ _ _ g (omega arith); roots_after = all_roots _ _ _ _ _ g (omega arith) }
