-- `field_runs::double_entry` meets its contract.
use mathlib.Core.Path.{◌≡◌, ap, ap₂, ◌∙◌}
use mathlib.Core.List.{List}
use Prim.Native.Nat.{ℕ, ◌+◌}
use lib.ListN.{set}
use Rattle.theory_laws.specs.Xor.{◌⊕◌}
use Rattle.theory_laws.specs.Table.{at}
use Rattle.theory_field.specs.Field.{◌⊗◌}
use Rattle.theory_field.specs.Words.{words}
use Rattle.theory_field.proofs.Product.{⊗_comm}
use Rattle.field_gf128.specs.Word.{word}
use Rattle.field_runs.proofs.double_entry.Goals as goal

pub returns : goal.returns
returns g c =
    let args = c.args in let a = words args.a.now in
    let e : word c.get-e.result ≡ at a args.v = c.get-e.ensures in
    let p : word c.times-p.result ≡ at a args.v ⊗ word args.by.factor =
    c.times-p.ensures ∙ ap (◌⊗◌ (word args.by.factor)) e ∙ ⊗_comm (word args.by.factor) (at a args.v)
    in
    c.put-2.ensures
    ∙ ap₂ (λ (l : List ℕ) (x : ℕ). set l args.v x)
    (c.put.ensures ∙ ap (set a (args.n + args.v)) p)
    (c.add.ensures ∙ ap₂ ◌⊕◌ e p)
