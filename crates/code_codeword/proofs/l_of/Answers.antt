-- `code_codeword::l_of` meets its contract.
use mathlib.Core.Path.{refl}
use Rattle.code_codeword.proofs.Lengths.{shift-sizes}
use Rattle.code_codeword.proofs.l_of.Goals as goal

pub shift_over-requires : goal.shift_over-requires
shift_over-requires c =
    let z = shift-sizes _ _ _ _ _ _ _ c.in_ok-l_of_questions.ensures refl in
    (z.1, z.2)

pub invariant_of-code : goal.invariant_of-code
invariant_of-code c = record { sizes = (shift-sizes _ _ _ _ _ _ _ c.in_ok-l_of_questions.ensures refl).0 }
