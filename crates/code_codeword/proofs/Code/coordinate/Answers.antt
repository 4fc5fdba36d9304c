-- `code_codeword::Code::coordinate` meets its contract: below bit j, the sum is that of the first j rows of the gammas.
use Prim.Native.Nat.{ℕ, ◌+◌, ◌*◌, ◌<◌}
use mathlib.Core.Path.{sym, ap, ap₂, ◌∙◌}
use native.Mathlib.Omega.{arith}
use borrow.Author.Rules.{rules}
use Rattle.theory_field.specs.Words.{words}
use Rattle.field_gf128.specs.Word.{word}
use Rattle.theory_laws.specs.Xor.{◌⊕◌}
use Rattle.theory_laws.specs.Sum.{sum}
use Rattle.theory_multilinear.specs.Codeword.{shift_at}
use Rattle.code_codeword.proofs.Lengths.{gammas_fit, gamma-fits}
use Rattle.code_codeword.proofs.Shift.{shift_at-set, shift_at-unset}
use Rattle.code_codeword.proofs.Code.coordinate.Goals as goal
use Rattle.code_codeword.proofs.Code.coordinate.Goals.{Then-eps-j-eq1, then-eps-j-eq1, else-eps-j-eq1}

-- the gamma's place is among those lent
within : (c : Then-eps-j-eq1)
    → c.loop-j.j * c.args.self.now.n + c.args.i < 80
within c =
    let a = c.args in let p = c.requires in omega (arith, gammas_fit a.self.now.sizes.n≤ a.self.now.sizes.k≤, gamma-fits a.self.now.n a.self.now.k c.loop-j.j a.i p (omega arith))

pub loop-j-init : goal.loop-j-init
unfolding word shift_at sum
loop-j-init c = search rules

pub overflow_mul-j : goal.overflow_mul-j
overflow_mul-j c = omega (arith, within (goal.at.overflow_mul-j c).Then-eps-j-eq1)

pub overflow_add-j : goal.overflow_add-j
overflow_add-j c = omega (arith, within (goal.at.overflow_add-j c).Then-eps-j-eq1)

pub get-requires : goal.get-requires
get-requires c =
    let a = c.args in let p = c.requires in omega (arith, gamma-fits a.self.now.n a.self.now.k c.loop-j.j a.i p (omega arith))

pub loop-j-preserved : goal.loop-j-preserved
loop-j-preserved c =
    let h = c.loop-j.invariant in
    elim c.if-eps-j-eq1.branch [
      | then-eps-j-eq1 w ↦ ap word w.d-is ∙ w.add-d.ensures ∙ ap₂ ◌⊕◌ h w.get.ensures ∙ sym (shift_at-set _ _ _ _ _ w.if-eps-j-eq1.true)
      | else-eps-j-eq1 w ↦ ap word w.d-is ∙ h ∙ sym (shift_at-unset _ _ _ _ _ w.if-eps-j-eq1.false)
    ]

pub returns : goal.returns
returns c =
    let a = c.args in c.loop-j.invariant ∙ ap (λ (m : ℕ). shift_at a.self.now.n m (words a.self.now.gammas.now) a.eps a.i) (omega arith)
