-- `messages::put_number_part` meets its contract.
use Rattle.tree_message.proofs.Stores.{number-part_put}
use Rattle.tree_message.proofs.put_number_part.Goals as goal

pub returns : goal.returns
returns c = search number-part_put
