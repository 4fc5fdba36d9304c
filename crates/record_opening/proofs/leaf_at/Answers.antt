-- `record_opening::leaf_at` meets its contract.
use native.Mathlib.Omega.{arith}
use Rattle.tree_digest.proofs.Messages.{leaf_hashed}
use Rattle.record_opening.proofs.Values.{halves_long, halves-back, leaf_of_values}
use borrow.Author.Rules.{rules}
use Rattle.record_opening.proofs.leaf_at.Goals as goal

pub slice_bounds-hash_group-end-2 : goal.slice_bounds-hash_group-end-2
slice_bounds-hash_group-end-2 c = search halves_long

pub hash_group-requires : goal.hash_group-requires
hash_group-requires c = (search halves-back, search rules, search rules)

pub returns : goal.returns
returns c =
    leaf_of_values _ _ _ _ _ _ _ _ (leaf_hashed _ _ _ _ _ _ _ _ _ _ _ c.leaf_prefix-prefix.ensures (omega arith) c.hash_group.ensures)
    c.group_values-values.ensures
