-- `record_known::lane_leaf` meets its contract.
use mathlib.Core.Path.{sym}
use Rattle.record_known.proofs.lane_leaf.Goals as goal

pub returns : goal.returns
returns c = λ there. rw (sym c.numbered-group.ensures) c.leaf_at.ensures
