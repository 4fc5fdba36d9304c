-- `tree_four_messages::put_prefixes` meets its contract. The loop's invariant: the strides so far have the prefix at their fronts.
use mathlib.Core.Path.{refl}
use native.Mathlib.Omega.{arith}
use borrow.Author.Rules.{rules}
use Rattle.tree_four_messages.proofs.Filling.{strides_begin, strides_step, prefixes_end}
use Rattle.tree_four_messages.proofs.put_prefixes.Goals as goal

pub loop-k-init : goal.loop-k-init
loop-k-init c = (refl, strides_begin _ _ _ _)

pub loop-k-preserved : goal.loop-k-preserved
loop-k-preserved c = (
  search rules,
  strides_step _ _ _ _ _ _ _ _ _ c.loop-k-test.true (omega arith) (omega arith) (omega arith)
      c.put.ensures c.loop-k.invariant.1,
)

pub returns : goal.returns
returns c = prefixes_end _ _ _ _ (omega arith) (omega arith) c.loop-k.invariant.1
