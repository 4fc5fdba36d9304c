-- `hash_four_lanes::lane`: the words are copied one by one.
use lib.ListN.{length-replicate}
use native.Mathlib.Omega.{arith}
use Rattle.hash_four_lanes.proofs.Laws.{copied_more, copied_all}
use Rattle.hash_four_lanes.proofs.lane.Goals as goal

pub loop-i-init : goal.loop-i-init
loop-i-init g c = (simp length-replicate, λ k h. absurd (omega arith))

pub loop-i-preserved : goal.loop-i-preserved
loop-i-preserved g c =
    let a = c.args in copied_more g.row.N a.s.now c.loop-i.v a.l c.loop-i.i (omega arith) c.loop-i.invariant

pub returns : goal.returns
returns g c =
    let a = c.args in copied_all g.row.N a.s.now c.loop-i.v a.l c.loop-i.i (omega arith) c.loop-i.invariant
