-- `sum_is` meets its contract.
use native.Mathlib.Omega.{arith}
use Rattle.hash_serialize_parts.proofs.Laws.{sum_step, sum_stop, sum_end}
use Rattle.hash_serialize_parts.proofs.sum_is.Goals as goal

pub returns-then-left-l : goal.returns-then-left-l
returns-then-left-l c =
    sum_stop c.args.lengths.now c.loop-l.l-index c.loop-l.left _ (omega arith) c.if-left-l.true c.loop-l.invariant

pub loop-l-preserved : goal.loop-l-preserved
loop-l-preserved c =
    sum_step c.args.lengths.now c.loop-l.l-index c.loop-l.left _ (omega arith) c.if-left-l.false c.loop-l.invariant

pub returns : goal.returns
returns c = sum_end c.args.lengths.now c.loop-l.l-index c.loop-l.left _ (omega arith) c.loop-l.invariant
