-- `record_tail_check::groups_questions` meets its contract: from group g on, what is left to check gives the number.
use mathlib.Core.Path.{refl, sym, ◌∙◌}
use Rattle.theory_laws.proofs.Refusals.{never}
use Rattle.field_gf128.proofs.Equality.{words_equal}
use Rattle.record_tail_check.proofs.Groups.{groups-lent, groups-few, begin_within, begin_whole, begin_groups, some_group, place-small, rest-there}
use Rattle.record_tail_check.proofs.Groups.{group_known, group_readable, group_refused, group_passed, not_claimed, is-claimed}
use Rattle.record_known.proofs.TailGroups.{group_first}
use Rattle.record_reader.proofs.Places.{group_places, group_here}
use native.Mathlib.Omega.{arith}
use borrow.Author.Rules.{rules}
use Rattle.record_tail_check.proofs.groups_questions.Goals as goal

pub known_groups-ways-requires : goal.known_groups-ways-requires
known_groups-ways-requires c =
    groups-lent _ c.requires c.level_groups-groups.ensures

pub loop-g-init : goal.loop-g-init
loop-g-init c =
    let z = c.requires in
    let e = c.level_groups-groups.ensures in
    (begin_within _ z e, begin_whole _ z e, begin_groups _ _ _ _ _ e)

pub unwrap-v-requires : goal.unwrap-v-requires
unwrap-v-requires c =
    let v = group_here _ _ _ _ c.loop-g-test.true c.loop-g.invariant.1 in
    rw (c.group_at.ensures ∙ sym v.1) refl

pub first_place-first-requires : goal.first_place-first-requires
first_place-first-requires c =
    let h = place-small _ c.requires c.level_groups-groups.ensures _ c.loop-g-test.true c.level_width-width.ensures in
    rw c.numbered.ensures (omega arith)

pub offset_bounds-ways-g : goal.offset_bounds-ways-g
offset_bounds-ways-g c =
    record { fits = omega (arith, groups-few _ c.requires c.level_groups-groups.ensures, c.loop-g-test.true) }

pub bounds-ways-g : goal.bounds-ways-g
bounds-ways-g c =
    omega (arith, groups-few _ c.requires c.level_groups-groups.ensures, c.loop-g-test.true)

pub opening_known-requires : goal.opening_known-requires
opening_known-requires c = (
  group_readable _ c.requires c.level_groups-groups.ensures _ _ (sym c.unwrap-v.ensures ∙ c.group_at.ensures) c.loop-g-test.true c.loop-g.invariant.1,
  group_known _ _ _ _ _ _ _ (group_first _ _ _ _ _ c.first_place-first.ensures c.numbered.ensures refl) c.level_width-width.ensures c.known_groups-ways.ensures,
)

pub returns-in-Err : goal.returns-in-Err
returns-in-Err c =
    group_refused _ _ _ _ _ _ _ c.loop-g.invariant.2 (sym c.unwrap-v.ensures ∙ c.group_at.ensures)
    (group_first _ _ _ _ _ c.first_place-first.ensures c.numbered.ensures refl) (c.of_tail.ensures ∙ c.in-Err.ensures 28) c.level_width-width.ensures
    c.loop-g-test.true (never _)

pub loop-g-preserved : goal.loop-g-preserved
loop-g-preserved c =
    let v = sym c.unwrap-v.ensures ∙ c.group_at.ensures in
    let t = c.loop-g-test.true in
    let i = c.loop-g.invariant in (
      (group_places _ _ _ v).within,
      rest-there _ c.requires c.level_groups-groups.ensures _ _ v t i.1,
      group_passed _ _ _ _ _ _ _ i.2 v (group_first _ _ _ _ _ c.first_place-first.ensures c.numbered.ensures refl)
          (c.in_default.ensures 28) c.level_width-width.ensures t refl,
    )

pub first_value-first-requires : goal.first_value-first-requires
first_value-first-requires c =
    some_group _ c.requires c.level_groups-groups.ensures

pub returns-then-eq : goal.returns-then-eq
returns-then-eq c =
    is-claimed _ _ _ _ _ _ _ c.loop-g.invariant.2 c.loop-g-test.false c.level_groups-groups.ensures c.first_value-first.ensures
    (c.eq.ensures ∙ words_equal c.first_value-first.result c.args.claim (search rules) (search rules)) c.if-eq.true

pub returns : goal.returns
returns c =
    not_claimed _ _ _ _ _ _ _ c.loop-g.invariant.2 c.loop-g-test.false c.level_groups-groups.ensures c.first_value-first.ensures
    (c.eq.ensures ∙ words_equal c.first_value-first.result c.args.claim (search rules) (search rules)) c.if-eq.false
