-- `code_codeword::earlier_reading` meets its contract.
use mathlib.Core.Path.{refl, ◌∙◌, ap}
use Rattle.theory_multilinear.specs.Codeword.{all_coordinates}
use Rattle.code_codeword.proofs.Lengths.{earlier_long}
use Rattle.code_codeword.proofs.earlier_reading.Goals as goal

pub returns : goal.returns
returns c =
    let e = c.in_ok-earlier_questions.ensures in record { value = e; coordinates_after = c.all_coordinates.ensures ∙ ap all_coordinates (earlier_long _ _ _ _ _ e refl) }
