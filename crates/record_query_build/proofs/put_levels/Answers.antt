-- `record_query_build::put_levels` meets its contract: what is left to store from level l on gives the record.
use borrow.Author.Rules.{rules}
use Rattle.record_query_build.proofs.Sizes.{no_levels}
use Rattle.record_query_build.proofs.Puts.{first-level, pair_is, next-from, levels_end, levels-step, count_room, first-levels}
use Rattle.record_query_build.proofs.Levels.{level-room}
use mathlib.Core.Path.{◌∙◌}
use native.Mathlib.Omega.{arith}
use Rattle.record_query_build.proofs.put_levels.Goals as goal

pub put_number-at-requires : goal.put_number-at-requires
put_number-at-requires c =
    count_room _ c.requires

pub lent_level-x-requires : goal.lent_level-x-requires
lent_level-x-requires c =
    first-level _ _ _ c.requires.sizes

pub loop-l-init : goal.loop-l-init
loop-l-init c = (
  search rules,
  c.lent_level-x.ensures,
  no_levels _ _ _ _ c.put_number-at.ensures.end,
  first-levels _ c.requires c.put_number-at.ensures (λ j. (c.type_inv.levels j).fits),
)

pub next_level-y-requires : goal.next_level-y-requires
next_level-y-requires c =
    (c.requires.sizes, c.loop-l-test.true, c.loop-l.invariant.1)

pub put_level-at-requires : goal.put_level-at-requires
put_level-at-requires c =
    let i = c.loop-l.invariant in
    level-room _ c.requires _ c.loop-l-test.true i.1 c.next_level-y.ensures (pair_is _ _ _ c.folded-q.ensures) i.2
    (i.0 ∙ c.put_number-at.auto.out)

pub overflow_add-l : goal.overflow_add-l
overflow_add-l c =
    omega (arith, c.loop-l-test.true, c.requires.sizes.n_most)

pub loop-l-preserved : goal.loop-l-preserved
loop-l-preserved c =
    let i = c.loop-l.invariant in
    let y = c.next_level-y.ensures in
    let p = c.put_level-at.ensures in (
      search rules,
      y,
      next-from _ _ _ _ _ _ _ _ i.1 y i.2 p.end,
      levels-step _ c.requires _ i.3 p i.1 y (pair_is _ _ _ c.folded-q.ensures) c.loop-l-test.true,
    )

pub returns : goal.returns
returns c = search levels_end
