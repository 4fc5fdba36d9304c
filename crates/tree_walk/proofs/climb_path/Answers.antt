-- `climb_path` meets its contract. The loop's invariant: the way that is left from here leads to the same root.
use mathlib.Core.Path.{sym}
use Rattle.tree_digest.proofs.Front.{nodes_kept, nodes_hashed}
use Rattle.tree_walk.proofs.Climb.{climb_begin, parent_is, climb-step, climb_end}
use borrow.Author.Rules.{rules}
use Rattle.tree_walk.proofs.climb_path.Goals as goal

pub loop-l-init : goal.loop-l-init
loop-l-init c = (search rules, c.begin_nodes-h.ensures, climb_begin _ _ _ _ _ _ _)

pub slice_bounds-hash_level_node-end : goal.slice_bounds-hash_level_node-end
slice_bounds-hash_level_node-end c =
    sym c.loop-l.invariant.0

pub hash_level_node-d-requires : goal.hash_level_node-d-requires
hash_level_node-d-requires c =
    c.loop-l.invariant.1.front

pub loop-l-preserved : goal.loop-l-preserved
loop-l-preserved c =
    let begun = c.loop-l.invariant.1 in (
      search rules,
      nodes_kept _ _ _ _ _ _ _ begun c.hash_level_node-d.ensures (search rules),
      climb-step _ _ _ _ _ _ _ _ _ _ _ _ c.loop-l.invariant.2
          (parent_is _ _ _ _ _ _ (nodes_hashed _ _ _ _ _ _ _ _ _ begun c.hash_level_node-d.ensures) c.children-c.ensures.0
          c.children-c.ensures.1) c.digest_at-e.ensures c.loop-l-test.true c.parent-g.ensures,
    )

pub returns : goal.returns
returns c = climb_end _ _ _ _ _ _ _ _ _ c.loop-l.invariant.2 c.loop-l-test.false
