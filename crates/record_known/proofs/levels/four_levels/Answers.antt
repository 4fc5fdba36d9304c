-- `record_known::levels::four_levels` meets its contract: one level after the other.
use Rattle.record_known.specs.helpers.Known.{levels}
use Rattle.record_known.proofs.Known.{one-settled, lane_low, root-read}
use Rattle.record_known.proofs.levels.four_levels.Goals as goal

pub loop-j-init : goal.loop-j-init
loop-j-init c = c.requires.known_so_far

pub loop-j-preserved : goal.loop-j-preserved
loop-j-preserved c =
    one-settled _ (levels _) _ _ c.args.openings _ _ _ _ (lane_low _ _ _ _ _ _ _ c.loop-j.j c.requires)
    (c.level_ends-ends.ensures.end_of _ c.loop-j-test.true) c.loop-j.invariant
    (root-read _ c.args.openings _ _ _ _ _ _ c.level_in-l.ensures.0 c.load-root.ensures c.settle-more.ensures)
