-- `digests::hash_group` meets its contract.
use Rattle.tree_digest.proofs.Messages.{message-length, message_hashed}
use native.Mathlib.Omega.{arith}
use Rattle.tree_digest.proofs.hash_group.Goals as goal

pub slice_bounds-digest-end-2 : goal.slice_bounds-digest-end-2
slice_bounds-digest-end-2 c = message-length _ _ _ _ _ _ c.leaf_rest-n.ensures (omega arith)

pub digest-requires : goal.digest-requires
digest-requires c = omega (arith, message-length _ _ _ _ _ _ c.leaf_rest-n.ensures (omega arith))

pub returns : goal.returns
returns c = message_hashed _ _ _ _ _ _ c.leaf_rest-n.ensures (omega arith) _ _ c.digest.ensures
