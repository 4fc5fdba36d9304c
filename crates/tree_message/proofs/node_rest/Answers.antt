-- `messages::node_rest` meets its contract.
use Rattle.tree_message.proofs.Stores.{digests_put}
use borrow.Author.Rules.{rules}
use Rattle.tree_message.proofs.node_rest.Goals as goal

pub returns : goal.returns
returns c =
    digests_put _ _ _ _ _ _ _ _ (search rules) (search rules) c.put_part-a.ensures c.put_part.ensures
