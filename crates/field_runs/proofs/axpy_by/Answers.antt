-- `field_runs::axpy_by` meets its contract. The loop's invariant: the first v words are done.
use mathlib.Core.Path.{refl, ap, ap₂, ◌∙◌}
use Prim.Native.Nat.{ℕ}
use native.Mathlib.Omega.{arith}
use Rattle.theory_laws.specs.Xor.{◌⊕◌}
use Rattle.theory_laws.specs.Table.{at}
use Rattle.theory_laws.proofs.Updates.{updated, updated-all, updated-read, updated-turn}
use Rattle.theory_field.specs.Field.{◌⊗◌}
use Rattle.theory_field.specs.Words.{words}
use Rattle.theory_field.proofs.Words.{length-words}
use Rattle.field_gf128.specs.Word.{word}
use Rattle.field_runs.specs.Runs.{plus_scaled}
use Rattle.field_runs.proofs.axpy_by.Goals as goal

pub loop-v-init : goal.loop-v-init
unfolding updated
loop-v-init g c = refl

pub loop-v-preserved : goal.loop-v-preserved
loop-v-preserved g c =
    let a = c.args in let g : ℕ → ℕ → ℕ = λ k w. w ⊕ word a.by.factor ⊗ at (words a.x.now) k in
    c.put.ensures
    ∙ updated-turn c.loop-v.v g (words a.y.now) (words c.loop-v.y) (word c.add-sum.result) c.loop-v.invariant
    (c.add-sum.ensures
    ∙ ap₂ ◌⊕◌ (c.get.ensures ∙ updated-read c.loop-v.v g (words a.y.now) (words c.loop-v.y) c.loop-v.invariant)
    (c.times-p.ensures ∙ ap (◌⊗◌ (word a.by.factor)) c.get-w.ensures))

pub returns : goal.returns
unfolding plus_scaled
returns g c =
    let a = c.args in c.loop-v.invariant
    ∙ updated-all c.loop-v.v (λ k w. w ⊕ word a.by.factor ⊗ at (words a.x.now) k) (words a.y.now) (omega (arith, length-words a.y.now))
