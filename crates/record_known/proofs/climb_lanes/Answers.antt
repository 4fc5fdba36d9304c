-- `record_known::climb_lanes` meets its contract.
use Rattle.record_known.proofs.Lanes.{paths_there, ends_of}
use Rattle.record_known.proofs.climb_lanes.Goals as goal

pub climb_four-requires : goal.climb_four-requires
climb_four-requires c =
    let p = c.requires in
    (p.0, p.1, paths_there c.args.lanes _ _ _ _ p.2 c.larger.ensures c.larger-2.ensures c.larger-deepest.ensures)

pub returns : goal.returns
returns c = ends_of _ _ _ _ c.args.lanes _ _ _ c.four_leaves-leaves.ensures c.climb_four.ensures
