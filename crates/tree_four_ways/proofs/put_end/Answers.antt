-- `tree_four_ways::put_end` meets its contract.
use Rattle.tree_four_ways.proofs.Ways.{node_end_put}
use Rattle.tree_four_ways.proofs.put_end.Goals as goal

pub returns : goal.returns
returns c = search node_end_put
