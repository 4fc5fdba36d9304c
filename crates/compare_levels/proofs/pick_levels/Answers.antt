-- `compare_levels::pick_levels` meets its contract: below level l nothing was found, and the buffers are as they were.
use mathlib.Core.Path.{refl, sym, ◌∙◌}
use native.Mathlib.Omega.{arith}
use Rattle.compare_levels.proofs.Level.{rest_begin, rest-next, level-sized, read-there, pair-low}
use Rattle.compare_levels.proofs.Levels.{found_begin, level-picked, level_stop, level-next, levels_end}
use borrow.Author.Rules.{rules}
use Rattle.compare_levels.proofs.pick_levels.Goals as goal

pub loop-l-init : goal.loop-l-init
loop-l-init c =
    record {
      first-rest = rest_begin c.requires.first_accepted;
      second_rest = rest_begin c.requires.second_accepted;
      none_below = record { from_here = found_begin _ _ _ _; first_same = refl; second_same = refl };
    }

pub level_at-requires : goal.level_at-requires
level_at-requires c = c.loop-l.invariant.first-rest.within

pub level_at-requires-in-loop-l : goal.level_at-requires-in-loop-l
level_at-requires-in-loop-l c = c.loop-l.invariant.second_rest.within

pub unwrap-x-requires : goal.unwrap-x-requires
unwrap-x-requires c = read-there c.loop-l.invariant.first-rest c.loop-l-test.true _ c.level_at.ensures

pub unwrap-y-requires : goal.unwrap-y-requires
unwrap-y-requires c = read-there c.loop-l.invariant.second_rest c.loop-l-test.true _ c.level_at-in-loop-l.ensures

pub pair_of-q-requires : goal.pair_of-q-requires
pair_of-q-requires c =
    let a = c.loop-l.invariant.first-rest.allowed in
    let h = c.loop-l-test.true in
    omega arith

pub pick_level-requires : goal.pick_level-requires
pick_level-requires c =
    let p = c.requires in
    let q = c.loop-l.invariant in
    let test = c.loop-l-test.true in
    record {
      pair_most = pair-low _ q.first-rest test (sym c.unwrap-x.ensures ∙ c.level_at.ensures) _ c.pair_of-q.ensures;
      first_sized = level-sized _ q.first-rest test (sym c.unwrap-x.ensures ∙ c.level_at.ensures);
      second_sized = level-sized _ q.second_rest test (sym c.unwrap-y.ensures ∙ c.level_at-in-loop-l.ensures);
      first-room = search rules;
      second_room = search rules;
    }

pub returns-in-Some : goal.returns-in-Some
returns-in-Some c =
    level_stop c.loop-l.invariant.none_below c.loop-l-test.true
    (level-picked (sym c.unwrap-x.ensures ∙ c.level_at.ensures) (sym c.unwrap-y.ensures ∙ c.level_at-in-loop-l.ensures) c.pair_of-q.ensures c.in-Some.ensures)

pub loop-l-preserved : goal.loop-l-preserved
loop-l-preserved c =
    let q = c.loop-l.invariant in
    let test = c.loop-l-test.true in
    record {
      first-rest = rest-next _ q.first-rest test (sym c.unwrap-x.ensures ∙ c.level_at.ensures);
      second_rest = rest-next _ q.second_rest test (sym c.unwrap-y.ensures ∙ c.level_at-in-loop-l.ensures);
      none_below = level-next q.none_below test
          (level-picked (sym c.unwrap-x.ensures ∙ c.level_at.ensures) (sym c.unwrap-y.ensures ∙ c.level_at-in-loop-l.ensures) c.pair_of-q.ensures c.in_default.ensures);
    }

pub returns : goal.returns
returns c = levels_end c.loop-l.invariant.none_below c.loop-l-test.false
