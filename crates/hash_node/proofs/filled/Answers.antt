-- `filled` meets its contract: the part of the block that is written holds the bytes.
use native.Mathlib.Omega.{arith}
use Rattle.hash_node.proofs.Laws.{filled_with}
use Rattle.hash_node.proofs.filled.Goals as goal

pub returns : goal.returns
returns c =
    let a = c.args in
    filled_with a.block _ a.input.now a.to a.from a.n (omega arith) c.requires.0 c.requires.1 c.copy_from_slice.ensures.after
