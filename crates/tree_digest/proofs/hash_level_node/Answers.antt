-- `digests::hash_level_node` meets its contract.
use Rattle.tree_digest.proofs.Front.{front_length, front-begun, front_hashed}
use Rattle.tree_digest.proofs.hash_level_node.Goals as goal

pub slice_bounds-digest_after-end-2 : goal.slice_bounds-digest_after-end-2
slice_bounds-digest_after-end-2 c =
    front_length _ _ _ _ c.requires _ _ _ _ _ _ c.put_number-a.ensures c.node_rest-n.ensures

pub digest_after-requires : goal.digest_after-requires
digest_after-requires c =
    front-begun _ _ _ _ c.requires _ _ _ _ _ _ c.put_number-a.ensures c.node_rest-n.ensures

pub returns : goal.returns
returns c =
    front_hashed _ _ _ _ c.requires _ _ _ _ _ _ c.put_number-a.ensures c.node_rest-n.ensures _ _
    c.digest_after.ensures
