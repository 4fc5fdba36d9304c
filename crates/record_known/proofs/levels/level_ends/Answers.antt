-- `record_known::levels::level_ends` meets its contract.
use borrow.Author.Rules.{rules}
use Rattle.theory_record.specs.Lent.{fixed_by}
use Rattle.record_known.specs.helpers.Known.{levels}
use Rattle.tree_place.specs.Place.{index}
use Rattle.record_known.specs.helpers.Domains.{level_in}
use Rattle.record_known.proofs.Lanes.{lanes-ended, lanes-there}
use Rattle.record_known.proofs.levels.level_ends.Goals as goal

pub four_ends-requires : goal.four_ends-requires
four_ends-requires c = (
  search rules,
  search rules,
  lanes-there _ (levels (index c.args.position)) _ c.args.openings _ _ _ _ _ _ _ _ c.level_lane-a.ensures c.level_lane-b.ensures c.level_lane-c.ensures c.level_lane-d.ensures,
)

pub returns : goal.returns
returns c =
    lanes-ended (fixed_by c.args.deposit) (levels (index c.args.position)) _ c.args.openings (level_in c.args.e c.args.last) _ _ _ _ _ _ _
    c.level_lane-a.ensures c.level_lane-b.ensures c.level_lane-c.ensures c.level_lane-d.ensures
    c.four_ends.ensures c.put_domains-size.ensures.stands
