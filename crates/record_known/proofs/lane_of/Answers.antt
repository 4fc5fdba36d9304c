-- `record_known::lane_of` meets its contract.
use Rattle.record_known.proofs.Lanes.{runs-sized}
use Rattle.record_known.proofs.lane_of.Goals as goal

pub sized_lane-requires : goal.sized_lane-requires
sized_lane-requires c =
    let digests = c.has_run-2.ensures c.if-not-has_run-2.false in (
      runs-sized _ c.requires (c.has_run.ensures c.if-not-has_run.false) digests c.level_width.ensures
          c.level_depth.ensures,
      digests.near,
    )
