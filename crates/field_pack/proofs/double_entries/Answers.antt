-- `field_pack::double_entries` meets its contract: the entries so far are doubled, the others still there.
use mathlib.Core.Path.{◌≡◌, sym, ap, ◌∙◌, subst}
use Prim.Native.Nat.{ℕ, ◌+◌}
use native.Mathlib.Omega.{arith}
use Rattle.theory_laws.specs.Xor.{◌⊕◌}
use Rattle.theory_field.specs.Field.{◌⊗◌}
use Rattle.field_gf128.specs.Word.{word}
use Rattle.field_runs.proofs.Doubling.{Doubling, doubling_start, doubling_step, doubling_end}
use Rattle.field_pack.specs.Phi.{numbers}
use Rattle.field_pack.proofs.Numbers.{numbers-at, numbers-doubled, length-numbers}
use borrow.Author.Rules.{rules}
use Rattle.field_pack.proofs.double_entries.Goals as goal

pub loop-v-init : goal.loop-v-init
loop-v-init c = (search rules, doubling_start _ _ _)

pub loop-v-preserved : goal.loop-v-preserved
loop-v-preserved c =
    let a = c.args in let product = word c.mul-t.result in (
      search rules,
      subst (Doubling a.n (word a.z) (c.loop-v.v + 1) _)
          (sym (numbers-doubled c.loop-v.c c.loop-v.v a.n (word a.z) c.mul-t.result c.add.result
          (c.mul-t.ensures ∙ ap (λ (x : ℕ). x ⊗ word a.z) (numbers-at c.loop-v.c c.loop-v.v _ (omega arith)))
          (c.add.ensures ∙ ap (λ (x : ℕ). x ⊕ product) (numbers-at c.loop-v.c c.loop-v.v _ (omega arith)))))
          (doubling_step a.n (word a.z) c.loop-v.v _ (numbers c.loop-v.c) (omega arith) (omega (arith, length-numbers c.loop-v.c)) c.loop-v.invariant.1),
    )

pub returns : goal.returns
returns c =
    let a = c.args in let z : c.loop-v.v ≡ a.n = omega arith in
    doubling_end a.n (word a.z) (numbers a.c.now) (numbers c.loop-v.c) (omega (arith, length-numbers a.c.now))
    (subst (λ (v : ℕ). Doubling a.n (word a.z) v (numbers a.c.now) (numbers c.loop-v.c)) z c.loop-v.invariant.1)
