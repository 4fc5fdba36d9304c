-- `record_known::groups::group_ends` meets its contract.
use native.Mathlib.Omega.{arith}
use mathlib.Core.Path.{◌≡◌}
use borrow.Author.Rules.{rules}
use Rattle.theory_record.specs.Lent.{fixed_by}
use Rattle.record_known.specs.helpers.Known.{groups}
use Prim.Native.Nat.{◌+◌}
use Rattle.record_known.proofs.Lanes.{lanes-ended, lanes-there}
use Rattle.record_known.proofs.TailGroups.{one-domain}
use Rattle.record_known.proofs.groups.group_ends.Goals as goal

pub four_ends-requires : goal.four_ends-requires
four_ends-requires c = (
  search rules,
  search rules,
  lanes-there _ (groups (fixed_by c.args.deposit)) _ c.args.openings _ _ _ _ _ _ _ _ c.group_lane-a.ensures c.group_lane-b.ensures c.group_lane-c.ensures c.group_lane-d.ensures,
)

pub returns : goal.returns
returns c =
    lanes-ended (fixed_by c.args.deposit) (groups (fixed_by c.args.deposit)) _ c.args.openings (λ j. c.args.g + j) _ _ _ _ _ _ _
    (let first : c.args.g + 0 ≡ c.args.g = omega arith in rw first c.group_lane-a.ensures) c.group_lane-b.ensures c.group_lane-c.ensures
    c.group_lane-d.ensures c.four_ends.ensures (λ k h. one-domain _ _ _ _ k c.put_domains-size.ensures h)
