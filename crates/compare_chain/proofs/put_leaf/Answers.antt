-- `put_leaf` meets its contract: the prefix and the rest in the buffer, and hashed.
use native.Mathlib.Omega.{arith}
use Rattle.record_opening.proofs.Values.{halves_long, halves-back}
use Rattle.compare_chain.proofs.Noted.{both_long, leaf_noted}
use borrow.Author.Rules.{rules}
use Rattle.compare_chain.proofs.put_leaf.Goals as goal

pub slice_bounds-leaf_rest-end : goal.slice_bounds-leaf_rest-end
slice_bounds-leaf_rest-end c = search halves_long

pub leaf_rest-n-requires : goal.leaf_rest-n-requires
leaf_rest-n-requires c = (search halves-back, search rules)

pub slice_bounds-digest-end-2 : goal.slice_bounds-digest-end-2
slice_bounds-digest-end-2 c =
    both_long _ _ _ _ _ _ _ _ _ c.leaf_prefix-prefix.ensures c.leaf_rest-n.ensures (omega arith)

pub digest-requires : goal.digest-requires
digest-requires c =
    let p = c.leaf_prefix-prefix.ensures in
    let q = c.leaf_rest-n.ensures in
    omega (arith, both_long _ _ _ _ _ _ _ _ _ p q (omega arith), q.end, p.end)

pub returns : goal.returns
returns c =
    leaf_noted _ _ _ _ _ _ _ _ _ _ _ _ _ c.leaf_prefix-prefix.ensures c.leaf_rest-n.ensures (omega arith) c.group_values-values.ensures
    c.digest.ensures
