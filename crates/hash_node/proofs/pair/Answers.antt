-- `pair` meets its contract.
use native.Mathlib.Omega.{arith}
use Rattle.hash_node.proofs.Laws.{pair_put}
use Rattle.hash_node.proofs.pair.Goals as goal

pub returns : goal.returns
returns c =
    pair_put c.args.l c.args.r _ _ (omega arith) (omega arith) c.copy_from_slice.ensures.after c.copy_from_slice-2.ensures.after
