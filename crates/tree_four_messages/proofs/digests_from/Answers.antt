-- `tree_four_messages::digests_from` meets its contract.
use Rattle.hash_four_lanes.specs.helpers.Lane.{lane}
use Rattle.tree_four_messages.proofs.Digests.{lanes_hashed}
use Rattle.tree_four_messages.proofs.digests_from.Goals as goal

pub returns : goal.returns
returns c =
    let a = c.args in lanes_hashed a.mode (lane 8 a.h) a.blocks a.n a.messages.now c.rests.result c.requires c.rests.ensures
