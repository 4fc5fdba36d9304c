-- `tree_four_messages::digests_of` meets its contract.
use Rattle.tree_four_messages.proofs.Digests.{common-begun}
use Rattle.tree_four_messages.proofs.digests_of.Goals as goal

pub digests_from-requires : goal.digests_from-requires
digests_from-requires c =
    common-begun _ _ _ _ _ _ c.spread-v.ensures c.requires

pub returns : goal.returns
returns c = c.digests_from.ensures
