-- `field_pack::sums::sum_of` meets its contract: the sum so far is that of the terms so far.
use mathlib.Core.Path.{refl}
use native.Mathlib.Omega.{arith}
use Rattle.theory_laws.specs.Sum.{sum}
use Rattle.theory_laws.proofs.Windows.{sum_more, sum-all}
use Rattle.field_gf128.specs.Word.{word}
use Rattle.field_pack.proofs.sums.sum_of.Goals as goal

pub loop-i-init : goal.loop-i-init
unfolding sum word
loop-i-init g c f h = refl

pub loop-i-preserved : goal.loop-i-preserved
loop-i-preserved g c f h =
    sum_more f _ _ _ _ c.add-acc.ensures (h c.loop-i.i c.term.result c.loop-i-test.true c.term.ensures) (c.loop-i.invariant f h)

pub returns : goal.returns
returns g c f h = sum-all f _ _ _ (omega arith) (omega arith) (c.loop-i.invariant f h)
