-- `record_query_build::build_query` meets its contract.
use mathlib.Core.Path.{refl}
use Rattle.std.proofs.lemmas.Result.{err_from_is_err_and}
use Rattle.theory_laws.proofs.Refusals.{never}
use Rattle.record_query_build.proofs.Numbers.{number_is, refused, allowed, done}
use Rattle.record_query_build.proofs.build_query.Goals as goal

pub returns-in_err-questions : goal.returns-in_err-questions
returns-in_err-questions c =
    let p = err_from_is_err_and c.from_residual.result c.from_residual.ensures.1 in
    let e = c.in_err-questions.ensures in
    record { value = rw (p.1, p.2) (number_is _ _ _ _ _ _ _ _ e); out_after = refused _ _ _ _ _ _ _ _ e (never _) }

pub put_levels-requires : goal.put_levels-requires
put_levels-requires c = allowed _ _ _ _ _ _ _ _ c.in_ok-questions.ensures refl

pub returns : goal.returns
returns c =
    let e = c.in_ok-questions.ensures in
    record { value = number_is _ _ _ _ _ _ _ _ e; out_after = done _ _ _ _ _ _ _ _ e _ refl c.put_levels.ensures }
