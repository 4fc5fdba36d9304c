-- `code_parts::fold_part` meets its contract.
use mathlib.Core.Path.{refl}
use borrow.Author.Rules.{rules}
use Rattle.theory_laws.proofs.Questions.{asks}
use Rattle.code_parts.proofs.Lengths.{part-fits}
use Rattle.code_parts.proofs.fold_part.Goals as goal

pub put_fold_part-requires : goal.put_fold_part-requires
put_fold_part-requires c =
    (part-fits _ _ _ _ _ _ _ c.in_ok-fold_part_questions.ensures refl, refl)

pub returns : goal.returns
returns c = record { value = search (asks, rules); out_after = search (asks, rules) }
