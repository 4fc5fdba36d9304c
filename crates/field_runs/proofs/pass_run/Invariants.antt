-- `field_runs::pass_run` meets its contract. The loop's invariant: the run's first j pairs are done.
use mathlib.Core.Path.{◌≡◌}
use Rattle.theory_field.specs.Words.{words}
use Rattle.field_gf128.specs.Word.{word}
use Rattle.field_runs.specs.helpers.Steps.{pass_steps}
use Rattle.field_runs.proofs.pass_run.Given as goal

abbrev pub invariant-loop-j : goal.invariant-loop-j
invariant-loop-j g l = (words l.s ≡ pass_steps l.q l.half (word l.by.factor) l.j (words l.initial.s))
