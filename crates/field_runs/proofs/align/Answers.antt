-- `field_runs::align` meets its contract.
use mathlib.Core.Path.{ap, ◌∙◌}
use lib.ListN.{set}
use Rattle.theory_field.specs.Words.{words}
use Rattle.field_runs.proofs.align.Goals as goal

pub returns : goal.returns
returns c =
    c.put.ensures ∙ ap (set (words c.args.t.now) 0) c.get.ensures
