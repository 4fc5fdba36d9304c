-- `field_pack::phi_tab_apply` meets its contract: the halves' nibbles are the word's, and of the tables of c they choose phi.
use mathlib.Core.Path.{◌≡◌, ap, ap₂, ◌∙◌}
use mathlib.Core.List.{List}
use Prim.Native.Nat.{ℕ, ◌^◌, ◌<◌}
use native.Mathlib.Omega.{arith}
use Rattle.theory_laws.specs.Xor.{◌⊕◌}
use Rattle.theory_field.specs.Words.{words}
use Rattle.field_gf128.specs.Word.{word}
use Rattle.field_gf128.proofs.Halves.{joined-lt}
use Rattle.field_pack.specs.Phi.{chosen}
use Rattle.field_pack.proofs.Windows.{halves-chosen, chosen-phi}
use Rattle.field_pack.proofs.phi_tab_apply.Goals as goal

pub returns : goal.returns
unfolding word
returns c =
    let a = c.args in let lo : a.w.lo < 2 ^ 64 = omega arith in
    let hi : a.w.hi < 2 ^ 64 = omega arith in
    let e : word c.add.result ≡ chosen (words a.t.now) (word a.w) =
    c.add.ensures ∙ ap₂ ◌⊕◌ c.apply_half.ensures c.apply_half-2.ensures
    ∙ halves-chosen (words a.t.now) a.w.hi a.w.lo lo in
    record { result_value = e; by_index = λ f h. e ∙ ap (λ (t : List ℕ). chosen t (word a.w)) h ∙ chosen-phi f (word a.w) (joined-lt a.w.hi a.w.lo hi lo) }
