-- `field_runs::axpy_by` meets its contract. The loop's invariant: the first v words are done.
use mathlib.Core.Path.{◌≡◌}
use Rattle.theory_laws.specs.Xor.{◌⊕◌}
use Rattle.theory_laws.specs.Table.{at}
use Rattle.theory_laws.proofs.Updates.{updated}
use Rattle.theory_field.specs.Field.{◌⊗◌}
use Rattle.theory_field.specs.Words.{words}
use Rattle.field_gf128.specs.Word.{word}
use Rattle.field_runs.proofs.axpy_by.Given as goal

abbrev pub invariant-loop-v : goal.invariant-loop-v
invariant-loop-v g l = (words l.y ≡ updated l.v (λ k w. w ⊕ word l.by.factor ⊗ at (words l.x) k) (words l.initial.y))
