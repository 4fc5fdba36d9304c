-- `Hashing::node_of` meets its contract.
use Rattle.tree_digest.proofs.Messages.{node_hashed}
use native.Mathlib.Omega.{arith}
use Rattle.tree_digest.proofs.Hashing.node_of.Goals as goal

pub returns : goal.returns
returns c = node_hashed _ _ _ _ _ _ _ _ _ _ c.node_prefix-prefix.ensures (omega arith) c.hash_node.ensures
