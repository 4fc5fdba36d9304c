-- `Node::value` meets its contract.
use mathlib.Core.Path.{◌∙◌, ap}
use Rattle.theory_blake3.specs.Compression.{cv}
use Rattle.hash_node.specs.helpers.Node.{out_of}
use Rattle.hash_node.proofs.Node.value.Goals as goal

pub returns : goal.returns
unfolding out_of
returns c = c.first_eight.ensures ∙ ap cv c.compress.ensures
