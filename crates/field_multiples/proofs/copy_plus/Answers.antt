-- `tables::copy_plus` meets its contract. The loop's invariant: k words are copied.
use mathlib.Core.Path.{◌≡◌, refl, ap, ◌∙◌, subst}
use native.Mathlib.Omega.{arith}
use Rattle.theory_laws.specs.Xor.{◌⊕◌}
use Rattle.theory_field.specs.Words.{words}
use Rattle.theory_field.proofs.Words.{length-words}
use Rattle.field_gf128.specs.Word.{word}
use Rattle.field_multiples.specs.helpers.Rows.{Copied}
use Rattle.field_multiples.proofs.Products.{copied_more}
use Rattle.field_multiples.proofs.copy_plus.Goals as goal

pub loop-k-init : goal.loop-k-init
loop-k-init c = record { before = λ k h. refl; copies = λ k h. absurd (omega arith) }

pub loop-k-preserved : goal.loop-k-preserved
loop-k-preserved c =
    let a = c.args in
    rw c.put.ensures
    (copied_more a.from a.n c.loop-k.k (word a.d) (word c.add-w.result) (words a.t.now) (words c.loop-k.t) (omega arith)
    (omega (arith, length-words c.loop-k.t)) (c.add-w.ensures ∙ ap (λ x. x ⊕ word a.d) c.get.ensures) c.loop-k.invariant)

pub returns : goal.returns
returns c =
    let a = c.args in subst (λ k. Copied a.from a.n k (word a.d) (words a.t.now) (words c.loop-k.t)) (let z : c.loop-k.k ≡ a.n = omega arith in z) c.loop-k.invariant
