-- `tree_build::put_levels` meets its contract. The loop's invariant: storing the levels from this one on gives the whole tree.
use mathlib.Core.Path.{refl}
use Rattle.theory_blake3.proofs.Modes.{length-under}
use Rattle.tree_build.proofs.Levels.{levels-step, levels_end, levels_begin}
use Rattle.theory_merkle.proofs.Sizes.{next_power, half-even, half_some, power_begin}
use borrow.Author.Rules.{rules}
use native.Mathlib.Omega.{arith}
use Rattle.tree_build.proofs.put_levels.Goals as goal

pub loop-level-init : goal.loop-level-init
loop-level-init c = (
  power_begin _ _ c.requires.1,
  search rules,
  refl,
  levels_begin _ (length-under _) _ _ _ _ c.requires.1 c.requires.2,
)

pub put_parents-requires : goal.put_parents-requires
put_parents-requires c = (
  c.requires.0,
  omega (
    arith,
    half-even _ _ _ c.loop-level-test.true c.loop-level.invariant.0,
    half_some _ _ _ c.loop-level-test.true c.loop-level.invariant.0,
  ),
)

pub overflow_mul-from : goal.overflow_mul-from
overflow_mul-from c =
    omega (arith, half-even _ _ _ c.loop-level-test.true c.loop-level.invariant.0)

pub overflow_add-from : goal.overflow_add-from
overflow_add-from c =
    omega (arith, half-even _ _ _ c.loop-level-test.true c.loop-level.invariant.0)

pub loop-level-preserved : goal.loop-level-preserved
loop-level-preserved c =
    let e = half-even _ _ _ c.loop-level-test.true c.loop-level.invariant.0 in (
      next_power _ _ _ c.loop-level-test.true c.loop-level.invariant.0,
      omega arith,
      search rules,
      levels-step _ (length-under _) _ _ _ _ _ _ _ _ _ c.loop-level-test.true c.loop-level.invariant.0 refl c.loop-level.invariant.1 c.put_parents.ensures c.loop-level.invariant.3,
    )

pub returns : goal.returns
returns c = levels_end _ (length-under _) _ _ _ _ _ _ _ c.loop-level-test.false c.loop-level.invariant.0 c.loop-level.invariant.3
