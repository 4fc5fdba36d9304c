-- `tree_parts::parents` meets its contract.
use mathlib.Core.Path.{refl}
use Rattle.std.proofs.lemmas.Result.{err_from_is_err_and}
use Rattle.theory_laws.proofs.Questions.{yes_zero, no_zero}
use Rattle.theory_laws.proofs.Refusals.{never}
use Rattle.tree_place.proofs.Yes.{parents_yes}
use Rattle.tree_parts.proofs.parents.Goals as goal

pub returns-in_err-parents_questions : goal.returns-in_err-parents_questions
returns-in_err-parents_questions c =
    let p = err_from_is_err_and c.from_residual.result c.from_residual.ensures.1 in
    record { value = rw (p.1, p.2) c.in_err-parents_questions.ensures; out_after = no_zero _ _ _ _ _ c.in_err-parents_questions.ensures (never _) refl }

pub put_parents-requires : goal.put_parents-requires
put_parents-requires c = parents_yes _ _ _ c.in_ok-parents_questions.ensures

pub returns : goal.returns
returns c =
    let asked = c.in_ok-parents_questions.ensures in record { value = asked; out_after = yes_zero _ _ _ 0 _ asked refl c.put_parents.ensures }
