-- `tree_four_ways::put_ends` meets its contract. The loop's invariant: the first k messages have what follows their fronts.
use Prim.Native.Nat.{◌+◌, ◌*◌, ◌/◌, ◌^◌}
use mathlib.Core.Path.{refl, sym, ap}
use native.Mathlib.Omega.{arith}
use Rattle.tree_four_messages.proofs.Filling.{strides_begin, strides_step, strides_end}
use Rattle.tree_four_ways.proofs.Fields.{group_at, from_at}
use Rattle.tree_four_ways.proofs.Ways.{lane_end_put}
use borrow.Author.Rules.{rules}
use Rattle.tree_four_ways.proofs.put_ends.Goals as goal

pub loop-k-init : goal.loop-k-init
loop-k-init c = (refl, strides_begin _ _ _ _)

pub overflow_add-way : goal.overflow_add-way
overflow_add-way c =
    let h = c.requires.3 c.loop-k.k c.loop-k-test.true in
    omega (arith, h, from_at c.args.lanes c.loop-k.k c.loop-k-test.true)

pub loop-k-preserved : goal.loop-k-preserved
loop-k-preserved c = (
  search rules,
  strides_step _ _ _ _ _ _ _ _ _ c.loop-k-test.true (omega arith) (omega arith) refl
      (lane_end_put _ _ _ _ _ _ _ _ _ _ _ _ _ _ (ap (λ g. g / 2 ^ c.args.level) (sym (group_at c.args.lanes c.loop-k.k c.loop-k-test.true)))
      (ap (λ i. i + 32 * c.args.level) (sym (from_at c.args.lanes c.loop-k.k c.loop-k-test.true))) c.read-w.ensures c.load-d.ensures c.put_end.ensures)
      c.loop-k.invariant.1,
)

pub returns : goal.returns
returns c = strides_end _ _ _ _ _ _ (omega arith) (omega arith) c.loop-k.invariant.1
