-- `record_known::levels::level_lane` meets its contract.
use mathlib.Core.Path.{sym}
use Rattle.record_known.proofs.levels.level_lane.Goals as goal

pub returns : goal.returns
returns c =
    rw (sym c.level_in-l.ensures.0, sym c.folded.ensures) c.lane_of.ensures
