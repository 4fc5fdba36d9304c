-- `field_runs::line_at` meets its contract.
use mathlib.Core.Path.{ap, ◌∙◌}
use Rattle.theory_laws.specs.Xor.{◌⊕◌}
use Rattle.theory_field.specs.Field.{◌⊗◌}
use Rattle.field_gf128.specs.Word.{word}
use Rattle.theory_multilinear.specs.Fold.{line}
use Rattle.field_runs.proofs.line_at.Goals as goal

pub returns : goal.returns
unfolding line
returns g c =
    let a = c.args in c.add-2.ensures ∙ ap (λ x. word a.a ⊕ x) (c.times.ensures ∙ ap (◌⊗◌ (word a.by.factor)) c.add.ensures)
