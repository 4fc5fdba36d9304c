-- `record_opening::root_from` meets its contract.
use Rattle.tree_walk.proofs.Climb.{root_by_path}
use Rattle.record_opening.proofs.root_from.Goals as goal

pub returns : goal.returns
returns c = root_by_path _ _ _ _ _ _ _ _ _ _ c.group_of-g.ensures c.leaf_at-leaf.ensures c.climb_path.ensures
