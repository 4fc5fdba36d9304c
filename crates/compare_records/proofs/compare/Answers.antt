-- `compare_records::compare` meets its contract.
use mathlib.Core.Path.{refl}
use Rattle.std.proofs.lemmas.Result.{err_from_is_err_and}
use Rattle.theory_laws.proofs.Refusals.{never}
use Rattle.compare_records.proofs.Answer.{lent-refused, records_refused, comparable, picked-answer}
use Rattle.compare_records.proofs.compare.Goals as goal

pub returns-in_err-lent_questions : goal.returns-in_err-lent_questions
returns-in_err-lent_questions c =
    let p = err_from_is_err_and c.from_residual.result c.from_residual.ensures.1 in
    let a =
    lent-refused _ c.args.deposit.how _ _ _ _ _ c.args.first.now c.args.second.now _ _ c.in_err-lent_questions.ensures
    (never _) in
    record { result_value = rw (p.1, p.2) a.answer_is; one_after = a.first-is; two_after = a.second_is }

pub returns-in_err-records_questions : goal.returns-in_err-records_questions
returns-in_err-records_questions c =
    let p = err_from_is_err_and c.from_residual-in_err-records_questions.result c.from_residual-in_err-records_questions.ensures.1 in
    let a = records_refused _ _ _ _ _ _ _ _ _ _ _ c.in_ok-lent_questions.ensures refl c.in_err-records_questions.ensures (never _) in
    record { result_value = rw (p.1, p.2) a.answer_is; one_after = a.first-is; two_after = a.second_is }

pub pick_levels-requires : goal.pick_levels-requires
pick_levels-requires c =
    comparable _ _ _ _ _ _ _ _ _ _ _ c.in_ok-lent_questions.ensures refl c.in_ok-records_questions.ensures refl

pub returns : goal.returns
returns c =
    let a =
    picked-answer _ _ _ _ _ _ _ _ _ _ _ c.in_ok-lent_questions.ensures refl c.in_ok-records_questions.ensures refl
    c.unwrap_or-m.ensures c.pick_levels.ensures in
    record { result_value = a.answer_is; one_after = a.first-is; two_after = a.second_is }
