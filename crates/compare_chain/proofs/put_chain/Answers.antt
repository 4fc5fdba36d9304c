-- `put_chain` meets its contract: the leaf message, and the node messages after it.
use Rattle.compare_chain.proofs.Nodes.{chain_stored}
use Rattle.compare_chain.proofs.put_chain.Goals as goal

pub returns : goal.returns
returns c =
    chain_stored _ _ _ _ _ _ _ _ _ _ _ _ _ c.group_of-g.ensures c.put_leaf-d.ensures c.put_nodes.ensures
