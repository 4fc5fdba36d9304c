-- `record_tail_check::check_tail` meets its contract.
use mathlib.Core.Path.{refl}
use Rattle.std.proofs.lemmas.Result.{err_from_is_err_and}
use Rattle.theory_laws.proofs.Refusals.{never}
use Rattle.record_tail_check.proofs.Numbers.{tail-refused, tail-passes, tail-allowed, root-room, whole-root}
use Rattle.record_tail_check.proofs.check_tail.Goals as goal

pub returns-in_err-head_questions : goal.returns-in_err-head_questions
returns-in_err-head_questions c =
    let p = err_from_is_err_and c.from_residual.result c.from_residual.ensures.1 in
    rw (p.1, p.2) (tail-refused _ _ _ _ _ c.in_err-head_questions.ensures (never _))

pub load-last-requires : goal.load-last-requires
load-last-requires c = root-room _ _ _ _ c.in_ok-head_questions.ensures refl

pub groups_questions-requires : goal.groups_questions-requires
groups_questions-requires c = (tail-allowed _ _ _ _ c.in_ok-head_questions.ensures refl).1

pub returns : goal.returns
returns c =
    let e = c.in_ok-head_questions.ensures in
    tail-passes _ _ _ _ _ e refl _ _ (whole-root _ _ _ _ e refl _ c.load-last.ensures) c.groups_questions.ensures
