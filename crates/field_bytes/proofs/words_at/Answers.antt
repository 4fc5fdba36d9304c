-- `words_at` meets its contract: the first v words are read.
use mathlib.Core.Path.{◌∙◌}
use native.Mathlib.Omega.{arith}
use Rattle.field_bytes.specs.Words.{words_from}
use Rattle.theory_field.proofs.Words.{filled_more, filled_all}
use Rattle.field_bytes.proofs.words_at.Goals as goal

pub loop-v-init : goal.loop-v-init
loop-v-init c = (c.requires.1, λ v h. absurd (omega arith))

pub loop-v-preserved : goal.loop-v-preserved
loop-v-preserved c = (
  c.put.auto.s ∙ c.loop-v.invariant.0,
  filled_more _ _ _ _ _ (omega arith) c.put.ensures c.word_at-w.ensures c.loop-v.invariant.1,
)

pub returns : goal.returns
unfolding words_from
returns c = filled_all _ _ _ _ c.loop-v.invariant.0 c.loop-v-test.false c.loop-v.invariant.1
