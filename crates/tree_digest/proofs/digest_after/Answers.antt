-- `digests::digest_after` meets its contract.
use Rattle.tree_digest.proofs.Front.{after_hashed}
use Rattle.tree_digest.proofs.digest_after.Goals as goal

pub returns : goal.returns
returns c =
    after_hashed _ _ _ _ c.requires c.bytes_of.ensures c.value.ensures (c.chunk_rest-n.ensures 8)
