-- `tree_four_messages::begin` meets its contract.
use Rattle.tree_four_messages.proofs.begin.Goals as goal

pub returns : goal.returns
returns c =
    record { each = c.put_prefixes.ensures; value = c.first_blocks.ensures }
