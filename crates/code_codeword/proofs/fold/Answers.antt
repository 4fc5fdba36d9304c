-- `code_codeword::fold` meets its contract.
use mathlib.Core.Path.{refl}
use native.Mathlib.Omega.{arith}
use borrow.Author.Rules.{rules}
use Rattle.theory_laws.proofs.Questions.{asks}
use Rattle.code_codeword.proofs.Lengths.{fold-sizes}
use Rattle.code_codeword.proofs.fold.Goals as goal

pub fold_within-requires : goal.fold_within-requires
fold_within-requires c =
    let z = fold-sizes _ _ _ _ _ _ _ _ c.in_ok-fold_questions.ensures refl in
    (z.paired, z.halved, omega arith)

pub drop_coordinate-requires : goal.drop_coordinate-requires
drop_coordinate-requires c =
    let z = fold-sizes _ _ _ _ _ _ _ _ c.in_ok-fold_questions.ensures refl in
    omega (arith, z.below, z.list_long)

pub overflow_sub-result : goal.overflow_sub-result
overflow_sub-result c =
    let z = fold-sizes _ _ _ _ _ _ _ _ c.in_ok-fold_questions.ensures refl in
    omega (arith, z.below)

pub returns : goal.returns
returns c = record { value = search (asks, rules); coordinates_after = search (asks, rules); out_after = search (asks, rules) }
