-- `record_known::groups::group_lane` meets its contract.
use Rattle.record_known.proofs.TailGroups.{first_fits, group_first, lane-placed}
use Rattle.record_known.proofs.groups.group_lane.Goals as goal

pub first_place-first-requires : goal.first_place-first-requires
first_place-first-requires c =
    first_fits _ _ _ _ _ c.requires.1 c.numbered.ensures c.level_width-width.ensures

pub returns : goal.returns
returns c =
    lane-placed _ _ _ _ _ _ _ _ (group_first _ _ _ _ _ c.first_place-first.ensures c.numbered.ensures c.level_width-width.ensures) c.lane_of.ensures
