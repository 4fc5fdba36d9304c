-- `ring_indicator::tensor_eval` meets its contract: what is left of the steps gives the final words, and their fold is the indicator.
use mathlib.Core.Path.{ap, ap₂, ◌∙◌}
use native.Mathlib.Omega.{arith}
use borrow.Author.Rules.{rules}
use Rattle.theory_laws.specs.Table.{at}
use Rattle.theory_field.specs.Words.{words}
use Rattle.theory_field.proofs.Words.{length-words, length-words-even}
use Rattle.field_gf128.specs.Word.{word}
use Rattle.theory_multilinear.specs.Partials.{fold_partials}
use Rattle.theory_multilinear.proofs.Tensor.{tensor_step, tensor_run, unit}
use Rattle.field_pack.specs.Phi.{coefficients}
use Rattle.theory_multilinear.proofs.Indicator.{tensor_indicator}
use Rattle.ring_indicator.proofs.Steps.{step_words, run_begin, run_step, run_end}
use Rattle.ring_indicator.proofs.tensor_eval.Goals as goal

pub loop-i-init : goal.loop-i-init
loop-i-init c = (search rules, ap (tensor_run (words c.args.z.now) (words c.args.point.now)) (run_begin 254))

pub loop-i-preserved : goal.loop-i-preserved
loop-i-preserved c =
    let a = c.args in (
      search rules,
      run_step (words a.z.now) (words a.point.now) c.loop-i.i (at (words c.loop-i.t)) (at (words c.tensor_step.new.t))
          (tensor_run (words a.z.now) (words a.point.now) unit)
          (omega (arith, length-words a.z.now)) (omega (arith, length-words a.point.now))
          (step_words (word c.get.result) (word c.get-in-loop-i.result) (words c.tensor_step.new.t) (words c.loop-i.t)
          (length-words-even c.loop-i.t 128 (omega arith)) c.tensor_step.ensures
          ∙ ap₂ (λ z q. tensor_step z q (at (words c.loop-i.t))) c.get.ensures c.get-in-loop-i.ensures)
          c.loop-i.invariant.1,
    )

pub returns : goal.returns
returns c =
    let a = c.args in let zs = words a.z.now in
    let qs = words a.point.now in
    c.fold.ensures
    ∙ ap (λ t. fold_partials t (coefficients a.rb))
    (run_end zs qs c.loop-i.i (at (words c.loop-i.t)) (tensor_run zs qs unit) (omega (arith, length-words a.z.now)) c.loop-i.invariant.1)
    ∙ tensor_indicator (coefficients a.rb) zs qs (omega (arith, length-words a.z.now, length-words a.point.now))
