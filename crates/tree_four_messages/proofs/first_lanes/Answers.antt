-- `tree_four_messages::first_lanes` meets its contract.
use mathlib.Core.Path.{sym}
use native.Mathlib.Omega.{arith}
use Rattle.theory_laws.proofs.Lists.{length-lent}
use lib.Seq.{length-take-le}
use Rattle.tree_four_messages.proofs.Digests.{lanes_begun}
use Rattle.tree_four_messages.proofs.first_lanes.Goals as goal

pub slice_bounds-first_of-end : goal.slice_bounds-first_of-end
slice_bounds-first_of-end c = sym (length-take-le _ _ (omega arith))

pub first_of-requires : goal.first_of-requires
first_of-requires c =
    let a = c.args in let n = a.n in
    let m = a.messages.now in
    record {
      first = omega (arith, length-take-le n m (omega arith));
      second = omega (arith, length-lent n 1024 m (omega arith));
      third = omega (arith, length-lent n 2048 m (omega arith));
      fourth = omega (arith, length-lent n 3072 m (omega arith));
    }

pub returns : goal.returns
returns c = lanes_begun _ _ _ _ _ _ c.first_of.ensures
