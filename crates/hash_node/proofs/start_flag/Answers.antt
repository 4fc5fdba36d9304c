-- `hash_node::start_flag` meets its contract.
use Rattle.hash_node.proofs.Laws.{start_later}
use Rattle.hash_node.proofs.start_flag.Goals as goal

pub returns-else-blocks-eq0 : goal.returns-else-blocks-eq0
returns-else-blocks-eq0 c = start_later _ c.if-blocks-eq0.false
