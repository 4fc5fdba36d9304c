-- `tree_four_ways::put_leaf` meets its contract.
use native.Mathlib.Omega.{arith}
use Rattle.tree_digest.proofs.Messages.{message-length}
use Rattle.tree_four_ways.proofs.Leaves.{prefix-long, leaf_put}
use borrow.Author.Rules.{rules}
use Rattle.tree_four_ways.proofs.put_leaf.Goals as goal

pub slice_bounds-put-end : goal.slice_bounds-put-end
slice_bounds-put-end c =
    message-length _ _ _ _ _ _ c.leaf_prefix-n.ensures (omega arith)

pub put-a-requires : goal.put-a-requires
put-a-requires c =
    omega (arith, prefix-long _ _ _ _ _ _ c.leaf_prefix-n.ensures (omega arith))

pub put_leaf_rest-requires : goal.put_leaf_rest-requires
put_leaf_rest-requires c =
    let long = prefix-long _ _ _ _ _ _ c.leaf_prefix-n.ensures (omega arith) in
    (search rules, omega (arith, long))

pub returns : goal.returns
returns c =
    leaf_put _ _ _ _ _ _ c.leaf_prefix-n.ensures (omega arith) _ _ _ _ _ _ _ _ c.put-a.ensures c.put_leaf_rest.ensures
