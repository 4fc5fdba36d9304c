-- `tree_four_ways::leaves_four` meets its contract.
use native.Mathlib.Omega.{arith}
use Rattle.theory_blake3.specs.Modes.{under}
use Rattle.theory_blake3.proofs.Modes.{length-under}
use Rattle.theory_merkle.specs.Tree.{leaf_digest}
use Rattle.tree_four_ways.proofs.Leaves.{messages_hashed, none-begun}
use Rattle.tree_four_ways.proofs.leaves_four.Goals as goal

pub put_digests-requires : goal.put_digests-requires
put_digests-requires c =
    (none-begun _ _ _ (omega arith) (omega (arith, c.requires.2.0)) (omega arith), omega arith)

pub returns : goal.returns
unfolding leaf_digest
returns c =
    messages_hashed (under c.args.mode) _ _ _ _ _ _ (length-under _) (omega arith) c.put_leaves.ensures c.put_digests.ensures
