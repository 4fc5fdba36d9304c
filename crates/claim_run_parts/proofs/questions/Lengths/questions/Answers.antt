-- `claim_run_parts::questions::Lengths::questions` meets its contract.
use mathlib.Core.Path.{refl}
use Rattle.std.proofs.lemmas.Result.{err_from_is_err_and}
use Rattle.code_level.proofs.Sizes.{sizes-said}
use Rattle.claim_run_parts.proofs.Numbers.{no_size, no_input, no_deposit, no_record, the_last}
use Rattle.claim_run_parts.proofs.questions.Lengths.questions.Goals as goal

pub returns-in_err-size_questions : goal.returns-in_err-size_questions
returns-in_err-size_questions c =
    let p = err_from_is_err_and c.from_residual.result c.from_residual.ensures.1 in
    rw (p.1, p.2)
    (no_size _ _ _ _ _ _ _ _ _ _ _ _ _ _ _ _ _ _ _ _ c.in_err-size_questions.ensures)

pub input_questions-requires : goal.input_questions-requires
input_questions-requires c = (sizes-said _ _ 0 c.in_ok-size_questions.ensures refl).n_most

pub returns-in_err-input_questions : goal.returns-in_err-input_questions
returns-in_err-input_questions c =
    let p = err_from_is_err_and c.from_residual-in_err-input_questions.result c.from_residual-in_err-input_questions.ensures.1 in
    rw (p.1, p.2)
    (no_input _ _ _ _ _ _ _ _ _ _ _ _ _ _ _ _ _ _ _ c.in_ok-size_questions.ensures _ c.in_err-input_questions.ensures)

pub deposit_questions-requires : goal.deposit_questions-requires
deposit_questions-requires c = sizes-said _ _ 0 c.in_ok-size_questions.ensures refl

pub returns-in_err-deposit_questions : goal.returns-in_err-deposit_questions
returns-in_err-deposit_questions c =
    let p = err_from_is_err_and c.from_residual-in_err-deposit_questions.result c.from_residual-in_err-deposit_questions.ensures.1 in
    rw (p.1, p.2)
    (no_deposit _ _ _ _ _ _ _ _ _ _ _ _ _ _ _ _ _ _ _ c.in_ok-size_questions.ensures c.in_ok-input_questions.ensures _ c.in_err-deposit_questions.ensures)

pub record_questions-requires : goal.record_questions-requires
record_questions-requires c = sizes-said _ _ 0 c.in_ok-size_questions.ensures refl

pub returns-in_err-record_questions : goal.returns-in_err-record_questions
returns-in_err-record_questions c =
    let p = err_from_is_err_and c.from_residual-in_err-record_questions.result c.from_residual-in_err-record_questions.ensures.1 in
    rw (p.1, p.2)
    (no_record _ _ _ _ _ _ _ _ _ _ _ _ _ _ _ _ _ _ _ c.in_ok-size_questions.ensures c.in_ok-input_questions.ensures c.in_ok-deposit_questions.ensures _ c.in_err-record_questions.ensures)

pub last_questions-requires : goal.last_questions-requires
last_questions-requires c = sizes-said _ _ 0 c.in_ok-size_questions.ensures refl

pub returns : goal.returns
returns c =
    the_last _ _ _ _ _ _ _ _ _ _ _ _ _ _ _ _ _ _ _ c.in_ok-size_questions.ensures c.in_ok-input_questions.ensures
    c.in_ok-deposit_questions.ensures c.in_ok-record_questions.ensures _ c.last_questions.ensures
