-- `group_values` meets its contract. The loop's invariant: the first i words are read.
use native.Mathlib.Omega.{arith}
use Rattle.theory_field.proofs.Words.{filled_more}
use Rattle.record_opening.proofs.Values.{values_filled}
use borrow.Author.Rules.{rules}
use Rattle.record_opening.proofs.group_values.Goals as goal

pub loop-i-init : goal.loop-i-init
loop-i-init c = (search rules, λ j h. absurd (omega arith))

pub loop-i-preserved : goal.loop-i-preserved
loop-i-preserved c =
    (search rules, filled_more _ _ _ _ _ (omega arith) c.put.ensures c.word_at-w.ensures c.loop-i.invariant.1)

pub returns : goal.returns
returns c = values_filled _ _ _ _ _ c.loop-i.invariant.1 c.loop-i.invariant.0 c.requires.0 c.loop-i-test.false
