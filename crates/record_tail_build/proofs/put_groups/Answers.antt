-- `record_tail_build::put_groups` meets its contract: from group g on, what is left to store is what was left when the loop began.
use Rattle.record_tail_build.proofs.Groups.{groups-step, groups_end}
use Rattle.record_tail_build.proofs.Sizes.{count_room, group_room, first-groups, next_place}
use mathlib.Core.Path.{refl, ◌∙◌}
use native.Mathlib.Omega.{arith}
use borrow.Author.Rules.{rules}
use Rattle.record_tail_build.proofs.put_groups.Goals as goal

pub put_number-at-requires : goal.put_number-at-requires
put_number-at-requires c = search count_room

pub loop-g-init : goal.loop-g-init
loop-g-init c = (search rules, omega arith, refl)

pub put_group-at-requires : goal.put_group-at-requires
put_group-at-requires c =
    rw c.numbered-group.ensures
    (group_room _ c.requires c.level_groups-groups.ensures c.level_width-width.ensures c.level_depth-depth.ensures _ c.loop-g-test.true
    c.loop-g.invariant.1 (search rules))

pub loop-g-preserved : goal.loop-g-preserved
loop-g-preserved c =
    let q = c.loop-g.invariant in
    let put = rw c.numbered-group.ensures at c.put_group-at.ensures in (
      search rules,
      next_place _ _ _ _ q.1 put.end,
      groups-step _ _ _ _ _ _ q.2 put c.loop-g-test.true,
    )

pub returns : goal.returns
returns c =
    groups_end _ _ _ _ _ _ _ _ _ c.loop-g.invariant.2 c.loop-g-test.false
    ∙ first-groups _ c.requires c.level_groups-groups.ensures c.level_width-width.ensures c.level_depth-depth.ensures
    c.put_number-at.ensures (λ j. (c.type_inv.level j).fits)
