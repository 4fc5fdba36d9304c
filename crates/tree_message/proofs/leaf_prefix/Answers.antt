-- `messages::leaf_prefix` meets its contract.
use Rattle.theory_merkle.specs.Message.{leaf_label}
use Rattle.tree_message.proofs.Stores.{leaf-prefix_put}
use Rattle.tree_message.proofs.leaf_prefix.Goals as goal

pub returns : goal.returns
unfolding leaf_label
returns c =
    leaf-prefix_put _ _ _ _ _ _ _ _ _ _ _ _ _ _ c.put_number-a.ensures c.put_part-b.ensures c.put_part-c.ensures c.put_number_part-d.ensures
    c.put_number_part.ensures
