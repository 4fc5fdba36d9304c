-- `field_runs::fold_run` meets its contract. The loop's invariant: the run's first j words are done.
use mathlib.Core.Path.{◌≡◌}
use Rattle.theory_field.specs.Words.{words}
use Rattle.field_gf128.specs.Word.{word}
use Rattle.field_runs.specs.helpers.Steps.{fold_steps}
use Rattle.field_runs.proofs.fold_run.Given as goal

abbrev pub invariant-loop-j : goal.invariant-loop-j
invariant-loop-j g l =
    (words l.out ≡ fold_steps l.q l.half (word l.by.factor) (words l.src) l.j (words l.initial.out))
