-- `record_known::four_leaves` meets its contract: at once, or lane by lane.
use Rattle.record_known.proofs.Lanes.{groups-there, leaves-at-once, leaves-one_by_one}
use Rattle.record_known.proofs.four_leaves.Goals as goal

pub leaves_four-requires : goal.leaves_four-requires
leaves_four-requires c =
    let p = c.requires in
    (p.0, p.1, groups-there c.args.lanes _ p.2 (c.one_width.ensures c.if-one_width.true))

pub returns-then-one_width : goal.returns-then-one_width
returns-then-one_width c =
    leaves-at-once _ _ _ _ c.args.lanes _ _ (c.one_width.ensures c.if-one_width.true) c.leaves_four.ensures

pub returns : goal.returns
returns c =
    leaves-one_by_one _ _ _ _ c.args.lanes _ _ _ _ _ _ c.lane_leaf-i.ensures c.lane_leaf-j.ensures c.lane_leaf-l.ensures
    c.lane_leaf-m.ensures c.end_to_end.ensures
