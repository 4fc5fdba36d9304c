-- `field_runs::scale_by` meets its contract. The loop's invariant: the first v words are multiplied.
use mathlib.Core.Path.{refl, sym, ap, ◌∙◌}
use Prim.Native.Nat.{ℕ}
use native.Mathlib.Omega.{arith}
use Rattle.theory_laws.proofs.Table.{map_at}
use Rattle.theory_laws.proofs.Updates.{updated, updated-all, updated-read, updated-turn}
use Rattle.theory_field.specs.Field.{◌⊗◌}
use Rattle.theory_field.specs.Words.{words}
use Rattle.theory_field.proofs.Words.{length-words}
use Rattle.field_gf128.specs.Word.{word}
use Rattle.field_runs.proofs.scale_by.Goals as goal

pub loop-v-init : goal.loop-v-init
unfolding updated
loop-v-init g c = refl

pub loop-v-preserved : goal.loop-v-preserved
loop-v-preserved g c =
    let a = c.args in let g : ℕ → ℕ → ℕ = λ k x. word a.by.factor ⊗ x in
    c.put.ensures
    ∙ updated-turn c.loop-v.v g (words a.s.now) (words c.loop-v.s) (word c.times.result) c.loop-v.invariant
    (c.times.ensures ∙ ap (◌⊗◌ (word a.by.factor)) (c.get-w.ensures ∙ updated-read c.loop-v.v g (words a.s.now) (words c.loop-v.s) c.loop-v.invariant))

pub returns : goal.returns
returns g c =
    let a = c.args in c.loop-v.invariant
    ∙ updated-all c.loop-v.v (λ k x. word a.by.factor ⊗ x) (words a.s.now) (omega (arith, length-words a.s.now))
    ∙ sym (map_at (◌⊗◌ (word a.by.factor)) (words a.s.now))
