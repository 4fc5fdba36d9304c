-- `record_query_check::check_query` meets its contract.
use mathlib.Core.Path.{refl}
use Rattle.std.proofs.lemmas.Result.{err_from_is_err_and}
use Rattle.theory_laws.proofs.Refusals.{never}
use Rattle.record_query_check.proofs.Numbers.{query_refused, query_allowed, query_checked}
use Rattle.record_query_check.proofs.Again.{levels-lent}
use Rattle.record_query_check.proofs.Loop.{begin_within}
use Rattle.record_query_check.proofs.check_query.Goals as goal

pub returns-in_err-query_questions : goal.returns-in_err-query_questions
returns-in_err-query_questions c =
    let p = err_from_is_err_and c.from_residual.result c.from_residual.ensures.1 in
    rw (p.1, p.2) (query_refused _ _ _ _ _ _ c.in_err-query_questions.ensures (never _))

pub known_levels-ways-requires : goal.known_levels-ways-requires
known_levels-ways-requires c =
    let allowed = query_allowed _ _ _ _ _ _ c.in_ok-query_questions.ensures refl in
    levels-lent allowed.0 (begin_within _ _ allowed.1)

pub check_levels-requires : goal.check_levels-requires
check_levels-requires c =
    let allowed = query_allowed _ _ _ _ _ _ c.in_ok-query_questions.ensures refl in
    (allowed.0, allowed.1, c.known_levels-ways.ensures)

pub returns : goal.returns
returns c =
    query_checked _ _ _ _ _ _ c.in_ok-query_questions.ensures refl _ c.check_levels.ensures
