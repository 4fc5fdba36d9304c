-- `ring_indicator::powers` meets its contract: the products so far stand there.
use mathlib.Core.Path.{refl, ◌∙◌}
use native.Mathlib.Omega.{arith}
use borrow.Author.Rules.{rules}
use Rattle.field_gf128.specs.Word.{word}
use Rattle.field_gf128.proofs.Halves.{word_lt}
use Rattle.ring_indicator.proofs.Steps.{next-times, times-tab}
use Rattle.theory_field.proofs.Words.{filled_more, filled_all}
use Rattle.ring_indicator.proofs.powers.Goals as goal

pub loop-j-init : goal.loop-j-init
loop-j-init c = (search rules, refl, λ k h. absurd (omega arith))

pub loop-j-preserved : goal.loop-j-preserved
loop-j-preserved c =
    let q = c.args.q in (
      search rules,
      next-times c.loop-j.j (word q) (word c.loop-j.p) (word c.double-p.result) c.loop-j.invariant.1 c.double-p.ensures,
      filled_more _ _ _ _ _ (omega arith) c.put.ensures c.loop-j.invariant.1 c.loop-j.invariant.2,
    )

pub returns : goal.returns
returns c =
    let q = c.args.q in filled_all _ _ 128 _ (omega arith) (omega arith) c.loop-j.invariant.2 ∙ times-tab (word q) (word_lt q (omega arith) (omega arith))
