-- `code_codeword::encode` meets its contract.
use mathlib.Core.Path.{refl}
use Rattle.code_codeword.proofs.Lengths.{encode-sizes}
use Rattle.code_codeword.proofs.encode.Goals as goal

pub encode_blocks-requires : goal.encode_blocks-requires
encode_blocks-requires c =
    let z = encode-sizes _ _ _ _ _ _ c.in_ok-encode_questions.ensures refl in
    (z.0.table=, z.1)

pub invariant_of-code : goal.invariant_of-code
invariant_of-code c = record { sizes = (encode-sizes _ _ _ _ _ _ c.in_ok-encode_questions.ensures refl).0.shifts }
