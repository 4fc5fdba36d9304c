-- `Hashing::leaf_of` meets its contract.
use Rattle.tree_digest.proofs.Messages.{leaf_hashed}
use native.Mathlib.Omega.{arith}
use Rattle.tree_digest.proofs.Hashing.leaf_of.Goals as goal

pub returns : goal.returns
returns c = leaf_hashed _ _ _ _ _ _ _ _ _ _ _ c.leaf_prefix-prefix.ensures (omega arith) c.hash_group.ensures
