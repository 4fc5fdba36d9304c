-- `tree_four_messages::put_node_rests` meets its contract. The loop's invariant: the messages so far are whole, and the prefixes of the others stand.
use mathlib.Core.Path.{refl}
use native.Mathlib.Omega.{arith}
use borrow.Author.Rules.{rules}
use Rattle.tree_four_messages.proofs.Filling.{strides_begin, strides_step, strides_end, node_rest_put}
use Rattle.tree_four_messages.proofs.put_node_rests.Goals as goal

pub loop-k-init : goal.loop-k-init
loop-k-init c = (refl, strides_begin _ _ _ _)

pub loop-k-preserved : goal.loop-k-preserved
loop-k-preserved c = (
  search rules,
  strides_step _ _ _ _ _ _ _ _ _ c.loop-k-test.true (omega arith) (omega arith) refl
      (node_rest_put _ _ _ _ _ _ _ _ _ refl c.load-l.ensures c.load-r.ensures
      c.node_rest.ensures) c.loop-k.invariant.1,
)

pub returns : goal.returns
returns c = strides_end _ _ _ _ _ _ (omega arith) (omega arith) c.loop-k.invariant.1
