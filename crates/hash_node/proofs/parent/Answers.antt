-- `hash_node::parent` meets its contract.
use Rattle.theory_blake3.specs.Tree as P
use Rattle.hash_node.specs.helpers.Node.{out_of}
use Rattle.hash_node.proofs.parent.Goals as goal

pub returns : goal.returns
unfolding P.parent out_of
returns c = λ x. rw c.pair-m.ensures
