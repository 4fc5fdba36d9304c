-- `tree_four_messages::put_leaf_rests` meets its contract. The loop's invariant: the messages so far are whole, and the prefixes of the others stand.
use Prim.Native.Nat.{◌*◌}
use mathlib.Core.Path.{refl}
use native.Mathlib.Omega.{arith}
use borrow.Author.Rules.{rules}
use Rattle.tree_four_messages.proofs.Filling.{strides_begin, strides_step, strides_end, leaf-rest_put}
use Rattle.tree_four_messages.proofs.Values.{group_length, group_of_four}
use Rattle.tree_four_messages.proofs.put_leaf_rests.Goals as goal

pub loop-k-init : goal.loop-k-init
loop-k-init c = (refl, strides_begin _ _ _ _)

pub overflow_add-end : goal.overflow_add-end
overflow_add-end c = omega (arith, group_of_four c.args.width _ c.loop-k-test.true)

pub offset_bounds-values-from : goal.offset_bounds-values-from
offset_bounds-values-from c =
    omega (arith, group_of_four c.args.width _ c.loop-k-test.true)

pub slice_bounds-leaf_rest-end : goal.slice_bounds-leaf_rest-end
slice_bounds-leaf_rest-end c =
    omega (arith, group_of_four c.args.width _ c.loop-k-test.true)

pub leaf_rest-requires : goal.leaf_rest-requires
leaf_rest-requires c =
    let a = c.args in (
      group_length a.values.now (2 * (a.width * c.loop-k.k)) (2 * a.width)
          (omega (arith, group_of_four a.width _ c.loop-k-test.true)),
      omega arith,
    )

pub loop-k-preserved : goal.loop-k-preserved
loop-k-preserved c = (
  search rules,
  strides_step _ _ _ _ _ _ _ _ _ c.loop-k-test.true (omega arith) (omega arith) refl
      (leaf-rest_put _ _ _ _ _ refl c.after-g.ensures c.leaf_rest.ensures) c.loop-k.invariant.1,
)

pub returns : goal.returns
returns c = strides_end _ _ _ _ _ _ (omega arith) (omega arith) c.loop-k.invariant.1
