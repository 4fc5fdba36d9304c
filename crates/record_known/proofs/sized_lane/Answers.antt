-- `record_known::sized_lane` meets its contract.
use mathlib.Core.Path.{◌∙◌}
use Rattle.record_opening.proofs.Levels.{sized-room}
use Rattle.record_known.proofs.Lanes.{sized-lane}
use borrow.Author.Rules.{rules}
use Rattle.record_known.proofs.sized_lane.Goals as goal

pub group_of-g-requires : goal.group_of-g-requires
group_of-g-requires c =
    let h = sized-room _ c.requires.0 in
    search rules

pub overflow_add-result : goal.overflow_add-result
overflow_add-result c =
    let h = sized-room _ c.requires.0 in
    search rules

pub returns : goal.returns
returns c =
    sized-lane _ _ _ _ _ _ _ _ _ _ _ _ _ c.requires.0 c.requires.1 c.level_length.ensures c.level_width-width.ensures
    c.level_depth.ensures (c.number.ensures ∙ c.group_of-g.ensures)
