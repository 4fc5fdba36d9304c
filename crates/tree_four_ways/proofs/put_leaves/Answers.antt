-- `tree_four_ways::put_leaves` meets its contract. The loop's invariant: the first k messages are whole.
use Prim.Native.Nat.{◌*◌}
use mathlib.Core.Path.{refl}
use native.Mathlib.Omega.{arith}
use borrow.Author.Rules.{rules}
use Rattle.theory_laws.proofs.Lists.{length-lent}
use Rattle.tree_four_messages.proofs.Filling.{strides_begin, strides_step, strides_end}
use Rattle.tree_four_ways.proofs.Fields.{count_at, group_at, place_at}
use Rattle.tree_four_ways.proofs.Ways.{strides_front}
use Rattle.tree_four_ways.proofs.Leaves.{lane-leaf_put}
use Rattle.tree_four_ways.proofs.put_leaves.Goals as goal

pub loop-k-init : goal.loop-k-init
loop-k-init c = (refl, strides_begin _ _ _ _)

pub overflow_add-end : goal.overflow_add-end
overflow_add-end c =
    let h = c.requires.2.1 c.loop-k.k c.loop-k-test.true in
    omega (arith, h, place_at c.args.lanes c.loop-k.k c.loop-k-test.true)

pub slice_bounds-put_leaf-start-in-loop-k : goal.slice_bounds-put_leaf-start-in-loop-k
slice_bounds-put_leaf-start-in-loop-k c =
    let h = c.requires.2.1 c.loop-k.k c.loop-k-test.true in
    omega (arith, h, place_at c.args.lanes c.loop-k.k c.loop-k-test.true)

pub slice_bounds-put_leaf-end-in-loop-k : goal.slice_bounds-put_leaf-end-in-loop-k
slice_bounds-put_leaf-end-in-loop-k c =
    let h = c.requires.2.1 c.loop-k.k c.loop-k-test.true in
    omega (arith, h, place_at c.args.lanes c.loop-k.k c.loop-k-test.true)

pub put_leaf-requires : goal.put_leaf-requires
put_leaf-requires c =
    let h = c.requires.2.1 c.loop-k.k c.loop-k-test.true in
    let domain = length-lent c.args.size (256 * c.loop-k.k) c.args.domains.now (omega arith) in
    let values = length-lent (16 * c.args.width) _ c.args.s.now (rw (place_at c.args.lanes c.loop-k.k c.loop-k-test.true) at h) in
    (omega (arith, domain), values, omega (arith, domain, c.requires.2.0))

pub loop-k-preserved : goal.loop-k-preserved
loop-k-preserved c =
    let inv = c.loop-k.invariant in (
      search rules,
      strides_step _ _ _ _ _ _ _ _ _ c.loop-k-test.true (omega (arith, c.requires.2.0)) (omega arith) (omega arith)
          (rw (← count_at c.args.lanes c.loop-k.k c.loop-k-test.true, ← group_at c.args.lanes c.loop-k.k c.loop-k-test.true, ← place_at c.args.lanes c.loop-k.k c.loop-k-test.true)
          at (lane-leaf_put _ _ _ _ _ _ _ _ _ _ _ _ _ refl c.loop-k-test.true c.requires.0 c.requires.1 c.put_leaf.ensures)) inv.1,
    )

pub returns : goal.returns
returns c =
    strides_front _ _ _ _ (strides_end _ _ _ _ _ _ (omega arith) (omega arith) c.loop-k.invariant.1)
