-- `put_node` meets its contract: the message in a buffer of its own, copied and hashed.
use native.Mathlib.Omega.{arith}
use Rattle.tree_place.specs.Place.{number}
use Rattle.compare_chain.proofs.Noted.{both_long, children_noted}
use Rattle.compare_chain.proofs.put_node.Goals as goal

pub slice_bounds-put-end : goal.slice_bounds-put-end
slice_bounds-put-end c =
    both_long _ _ _ _ _ _ _ _ _ c.node_prefix-prefix.ensures c.node_rest-n.ensures (omega (arith, c.requires.0))

pub put-requires : goal.put-requires
put-requires c =
    let p = c.node_prefix-prefix.ensures in
    let q = c.node_rest-n.ensures in
    omega (arith, both_long _ _ _ _ _ _ _ _ _ p q (omega (arith, c.requires.0)), p.end, q.end)

pub slice_bounds-digest-end : goal.slice_bounds-digest-end
slice_bounds-digest-end c =
    both_long _ _ _ _ _ _ _ _ _ c.node_prefix-prefix.ensures c.node_rest-n.ensures (omega (arith, c.requires.0))

pub digest-requires : goal.digest-requires
digest-requires c =
    let small = c.requires.0 in
    let p = c.node_prefix-prefix.ensures in
    let q = c.node_rest-n.ensures in
    omega (arith, both_long _ _ _ _ _ _ _ _ _ p q (omega (arith, small)), p.end, q.end, small)

pub returns : goal.returns
returns c =
    let a = c.args in
    children_noted _ _ _ _ (number a.g) a.d a.sibling _ _ _ _ _ _ _ _ _ _ _ c.children-c.ensures c.node_prefix-prefix.ensures
    c.node_rest-n.ensures (omega (arith, c.requires.0)) c.put.ensures c.digest.ensures
