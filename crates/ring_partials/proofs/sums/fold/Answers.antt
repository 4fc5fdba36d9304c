-- `ring_partials::sums::fold` meets its contract: the sum so far is that of the words from j on, by Horner's rule.
use mathlib.Core.Path.{◌≡◌, refl, sym, ap, ◌∙◌}
use Prim.Native.Nat.{suc, ◌+◌, ◌-◌, ◌^◌}
use native.Mathlib.Nat.{zero-add}
use native.Mathlib.Omega.{arith}
use Rattle.theory_laws.specs.Xor.{◌⊕◌}
use Rattle.theory_laws.specs.Sum.{sum}
use Rattle.theory_laws.specs.Table.{at}
use Rattle.theory_laws.proofs.Sum.{sum-ext}
use Rattle.theory_field.specs.Field.{◌⊗◌}
use Rattle.theory_field.specs.Words.{words}
use Rattle.field_gf128.specs.Word.{word}
use Rattle.field_gf128.proofs.Halves.{word_lt}
use Rattle.theory_multilinear.specs.Phi.{phi}
use Rattle.theory_multilinear.proofs.Partials.{fold_partials-phi}
use Rattle.field_pack.specs.Phi.{coefficients}
use Rattle.ring_partials.proofs.Horner.{horner_more}
use Rattle.ring_partials.proofs.sums.fold.Goals as goal

pub loop-j-init : goal.loop-j-init
unfolding sum word
loop-j-init c rb h = refl

pub loop-j-preserved : goal.loop-j-preserved
loop-j-preserved c rb h =
    let s = c.args.s.now in let x = c.phi_tab_apply.result in let left : suc (c.loop-j.j - 1) ≡ c.loop-j.j = omega arith in
    let count : suc (128 - c.loop-j.j) ≡ 128 - (c.loop-j.j - 1) = omega arith in
    horner_more (λ j. phi rb (at (words s) j)) (c.loop-j.j - 1) (128 - c.loop-j.j) (word c.loop-j.acc) (word x) (word c.add-acc.result) (omega arith)
    (word_lt x (omega arith) (omega arith))
    (c.add-acc.ensures ∙ ap (λ y. y ⊕ word x) c.double.ensures)
    (c.phi_tab_apply.ensures.by_index rb h ∙ ap (phi rb) c.get.ensures)
    (c.loop-j.invariant rb h ∙ ap (λ k. sum (128 - c.loop-j.j) (λ i. 2 ^ i ⊗ phi rb (at (words s) (k + i)))) (sym left))
    ∙ ap (λ m. sum m (λ i. 2 ^ i ⊗ phi rb (at (words s) (c.loop-j.j - 1 + i)))) count

pub returns : goal.returns
returns c =
    let a = c.args in let z : c.loop-j.j ≡ 0 = omega arith in
    (rw z at (c.loop-j.invariant (coefficients a.rb) c.phi_tab-t.ensures))
    ∙ sum-ext 128 (λ i h. ap (λ k. 2 ^ i ⊗ phi (coefficients a.rb) (at (words a.s.now) k)) (zero-add i))
    ∙ sym (fold_partials-phi (at (words a.s.now)) (coefficients a.rb))
