-- `tree_four_ways::put_leaf_rest` meets its contract.
use Rattle.tree_four_ways.proofs.Leaves.{leaf-rest_put}
use Rattle.tree_four_ways.proofs.put_leaf_rest.Goals as goal

pub returns : goal.returns
returns c =
    leaf-rest_put _ _ _ _ _ _ _ _ _ _ _ _ _ c.requires.0 (λ k. (c.type_inv.values k).fits)
    c.put_number-a.ensures c.put_number-b.ensures c.put_number-c.ensures c.put.ensures
