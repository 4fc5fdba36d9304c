-- `code_parts::codeword_half` meets its contract.
use mathlib.Core.Path.{refl}
use native.Mathlib.Omega.{arith}
use borrow.Author.Rules.{rules}
use lib.Pow.{pow_pos}
use Rattle.theory_laws.proofs.Questions.{asks}
use Rattle.code_parts.proofs.Lengths.{half-sizes}
use Rattle.code_parts.proofs.codeword_half.Goals as goal

pub align-requires : goal.align-requires
align-requires c =
    let z = (half-sizes _ _ _ _ _ _ _ c.in_ok-half_questions.ensures refl).1 in
    (refl, omega (arith, z.table=, pow_pos c.args.n))

pub encode_half-requires : goal.encode_half-requires
encode_half-requires c =
    ((half-sizes _ _ _ _ _ _ _ c.in_ok-half_questions.ensures refl).1, omega arith)

pub invariant_of-code : goal.invariant_of-code
invariant_of-code c = record { sizes = (half-sizes _ _ _ _ _ _ _ c.in_ok-half_questions.ensures refl).0 }

pub returns : goal.returns
returns c = record { value = search (asks, rules); out_after = search (asks, rules) }
