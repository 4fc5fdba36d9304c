-- `compare_pick::pick_last` meets its contract. The loop's invariant: at message i and above nothing was found, so that the buffers are as they were.
use mathlib.Core.Path.{refl}
use Rattle.compare_pick.proofs.Chains.{below_all, below_stop, below_step, below_end}
use Rattle.compare_pick.proofs.pick_last.Goals as goal

pub loop-i-init : goal.loop-i-init
loop-i-init c = record { first_same = refl; second_same = refl; found = below_all _ _ _ _ _ }

pub returns-in-Some : goal.returns-in-Some
returns-in-Some c =
    let q = c.loop-i.invariant in
    below_stop _ _ _ _ _ _ q.found _ _ _ _ _ _ q.first_same q.second_same _ c.loop-i-test.true c.node_at-from.ensures.0 _ c.in-Some.ensures

pub loop-i-preserved : goal.loop-i-preserved
loop-i-preserved c =
    let q = c.loop-i.invariant in
    let s = below_step _ _ _ _ _ _ q.found _ _ _ _ _ _ q.first_same q.second_same _ c.loop-i-test.true c.node_at-from.ensures.0 c.in_default.ensures in
    record { first_same = s.0; second_same = s.1; found = s.2 }

pub returns : goal.returns
returns c =
    let q = c.loop-i.invariant in
    below_end _ _ _ _ _ _ q.found c.loop-i-test.false _ _ _ _ _ _ q.first_same q.second_same _ c.pick_at-2.ensures
