-- `record_known::groups::four_groups` meets its contract: one group after the other.
use native.Mathlib.Omega.{arith}
use Rattle.theory_record.specs.Lent.{fixed_by}
use Rattle.record_known.specs.helpers.Known.{groups}
use Rattle.record_known.proofs.Known.{one-settled}
use Rattle.record_known.proofs.groups.four_groups.Goals as goal

pub loop-j-init : goal.loop-j-init
loop-j-init c = c.requires.known_so_far

pub loop-j-preserved : goal.loop-j-preserved
loop-j-preserved c =
    let S = fixed_by c.args.deposit in
    one-settled S (groups S) _ _ c.args.openings _ _ _ _ (omega (arith, c.requires.group_most, c.loop-j-test.true))
    (c.group_ends-ends.ensures.end_of _ c.loop-j-test.true) c.loop-j.invariant c.settle-more.ensures
