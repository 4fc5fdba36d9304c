-- `field_blocks::import_words` meets its contract. The loop's invariant: the first v words are taken in.
use mathlib.Core.Path.{◌∙◌}
use native.Mathlib.Omega.{arith}
use Rattle.theory_field.proofs.Words.{filled_more, filled_all}
use Rattle.field_blocks.proofs.Runs.{imported-tab}
use Rattle.field_blocks.proofs.import_words.Goals as goal

pub loop-v-init : goal.loop-v-init
loop-v-init c =
    (c.requires, λ v h. absurd (omega arith))

pub loop-v-preserved : goal.loop-v-preserved
loop-v-preserved c = (
  c.put.auto.s ∙ c.loop-v.invariant.0,
  filled_more _ _ _ _ _ (omega arith) c.put.ensures c.block_at.ensures c.loop-v.invariant.1,
)

pub returns : goal.returns
returns c =
    filled_all _ _ _ _ c.loop-v.invariant.0 c.loop-v-test.false c.loop-v.invariant.1 ∙ imported-tab c.args.blocks.now
