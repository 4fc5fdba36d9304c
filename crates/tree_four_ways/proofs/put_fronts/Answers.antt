-- `tree_four_ways::put_fronts` meets its contract. The loop's invariant: the first k messages have their fronts.
use mathlib.Core.Path.{refl, sym}
use native.Mathlib.Omega.{arith}
use Rattle.tree_four_messages.proofs.Filling.{strides_begin, strides_step, strides_end}
use Rattle.tree_four_ways.proofs.Ways.{front_length, front_put, strides_front}
use borrow.Author.Rules.{rules}
use Rattle.tree_four_ways.proofs.put_fronts.Goals as goal

pub loop-k-init : goal.loop-k-init
loop-k-init c = (refl, search rules, strides_begin _ _ _ _)

pub slice_bounds-put-end : goal.slice_bounds-put-end
slice_bounds-put-end c =
    let inv = c.loop-k.invariant in sym (front_length _ _ _ _ _ _ _ _ refl c.loop-k-test.true c.requires.0 c.requires.1 inv.1 c.node_prefix.ensures)

pub put-requires : goal.put-requires
put-requires c =
    let inv = c.loop-k.invariant in let long = front_length _ _ _ _ _ _ _ _ refl c.loop-k-test.true c.requires.0 c.requires.1 inv.1
    c.node_prefix.ensures in
    omega (arith, long)

pub loop-k-preserved : goal.loop-k-preserved
loop-k-preserved c =
    let inv = c.loop-k.invariant in (
      search rules,
      search rules,
      strides_step _ _ _ _ _ _ _ _ _ c.loop-k-test.true (omega arith) (omega arith) (omega arith)
          (front_put _ _ _ _ _ _ _ _ refl c.loop-k-test.true c.requires.0 c.requires.1 inv.1
          c.node_prefix.ensures _ _ _ _ c.put.ensures) inv.2,
    )

pub returns : goal.returns
returns c =
    strides_front _ _ _ _ (strides_end _ _ _ _ _ _ (omega arith) (omega arith) c.loop-k.invariant.2)
