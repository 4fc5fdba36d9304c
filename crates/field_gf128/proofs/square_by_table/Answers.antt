-- `field_gf128::square_by_table` meets its contract: one square of a run.
use mathlib.Core.Path.{◌∙◌}
use Rattle.theory_field.proofs.Inverse.{frob-once}
use Rattle.field_gf128.specs.Word.{word}
use Rattle.field_gf128.proofs.square_by_table.Goals as goal

pub returns : goal.returns
returns c = c.squares.ensures ∙ frob-once (word c.args.a)
