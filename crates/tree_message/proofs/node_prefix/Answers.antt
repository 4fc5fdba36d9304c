-- `messages::node_prefix` meets its contract.
use Rattle.theory_merkle.specs.Message.{node_label}
use Rattle.tree_message.proofs.Stores.{node_prefix_put}
use Rattle.tree_message.proofs.node_prefix.Goals as goal

pub returns : goal.returns
unfolding node_label
returns c = search node_prefix_put
