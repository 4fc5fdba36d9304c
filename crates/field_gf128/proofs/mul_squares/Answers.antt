-- `field_gf128::mul_squares` meets its contract.
use mathlib.Core.Path.{ap, ◌∙◌}
use Rattle.theory_field.specs.Field.{◌⊗◌}
use Rattle.field_gf128.specs.Word.{word}
use Rattle.field_gf128.proofs.mul_squares.Goals as goal

pub returns : goal.returns
returns c = c.mul.ensures ∙ ap (◌⊗◌ (word c.args.a)) c.squares.ensures
