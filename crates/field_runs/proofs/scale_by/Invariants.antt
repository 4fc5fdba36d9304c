-- `field_runs::scale_by` meets its contract. The loop's invariant: the first v words are multiplied.
use mathlib.Core.Path.{◌≡◌}
use Rattle.theory_laws.proofs.Updates.{updated}
use Rattle.theory_field.specs.Field.{◌⊗◌}
use Rattle.theory_field.specs.Words.{words}
use Rattle.field_gf128.specs.Word.{word}
use Rattle.field_runs.proofs.scale_by.Given as goal

abbrev pub invariant-loop-v : goal.invariant-loop-v
invariant-loop-v g l = (words l.s ≡ updated l.v (λ k x. word l.by.factor ⊗ x) (words l.initial.s))
