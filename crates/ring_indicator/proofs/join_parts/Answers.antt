-- `ring_indicator::join_parts` meets its contract: the words so far are joined.
use mathlib.Core.Path.{refl, ap, ap₂, ◌∙◌}
use native.Mathlib.Omega.{arith}
use Rattle.theory_laws.specs.Xor.{◌⊕◌}
use Rattle.theory_laws.specs.Table.{at}
use Rattle.theory_laws.proofs.Updates.{updated, updated-read, updated-turn, updated_end}
use Rattle.theory_field.specs.Words.{words}
use Rattle.theory_field.proofs.Words.{length-words-even}
use Rattle.field_gf128.specs.Word.{word}
use Rattle.ring_indicator.specs.helpers.Steps.{join_parts}
use Rattle.ring_indicator.proofs.join_parts.Goals as goal

pub loop-k-init : goal.loop-k-init
unfolding updated
loop-k-init c = refl

pub loop-k-preserved : goal.loop-k-preserved
loop-k-preserved c =
    let l = c.loop-k in let a = c.args in let step = join_parts (word a.z) (at (words a.mixed.now)) in
    c.put.ensures
    ∙ updated-turn l.k step (words a.t.now) (words l.t) (word c.add.result) l.invariant
    (c.add.ensures
    ∙ ap₂ ◌⊕◌ (c.add-vertical.ensures ∙ ap (λ y. word c.get-e.result ⊕ y) c.mul.ensures) c.get.ensures
    ∙ ap (step l.k) (c.get-e.ensures ∙ updated-read l.k step (words a.t.now) (words l.t) l.invariant))

pub returns : goal.returns
returns c =
    let a = c.args in updated_end (join_parts (word a.z) (at (words a.mixed.now))) c.loop-k.k 128 (words a.t.now) (words c.loop-k.t)
    (length-words-even a.t.now 128 (omega arith)) (omega arith) c.loop-k.invariant
