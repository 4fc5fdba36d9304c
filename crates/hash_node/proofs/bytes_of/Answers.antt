-- `bytes_of` meets its contract.
use mathlib.Core.Path.{refl, ◌∙◌}
use native.Mathlib.Omega.{arith}
use Rattle.hash_node.proofs.Laws.{bytes-turn, bytes-begin, bytes-end}
use Rattle.hash_node.proofs.bytes_of.Goals as goal

pub loop-k-init : goal.loop-k-init
loop-k-init c = bytes-begin c.args.w _ (omega arith) refl

pub loop-k-preserved : goal.loop-k-preserved
loop-k-preserved c =
    bytes-turn c.args.w c.loop-k.b _ c.loop-k.k _ (omega arith) (omega arith) c.loop-k-test.array_long (c.copy_from_slice.ensures.after ∙ c.to_le_bytes.ensures)
    c.loop-k.invariant

pub returns : goal.returns
returns c = bytes-end c.args.w c.loop-k.b c.loop-k.k (omega arith) (omega arith) c.loop-k.invariant
