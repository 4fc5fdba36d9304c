-- `Hasher::finalize` meets its contract.
use mathlib.Core.Path.{sym}
use Rattle.std.proofs.lemmas.Result.{err_from_is_err_and}
use Rattle.hash_hasher.proofs.Ready.{ready, finalize_refused, finalize_done}
use Rattle.hash_hasher.proofs.hasher.Hasher.finalize.Goals as goal

pub returns-in_err-questions : goal.returns-in_err-questions
returns-in_err-questions c =
    let p = err_from_is_err_and c.from_residual.result c.from_residual.ensures.1 in rw (p.1, p.2) (finalize_refused c.args.self.now _ c.in_err-questions.ensures)

pub finish-requires : goal.finish-requires
finish-requires c = ready _ 0 (sym c.in_ok-questions.ensures)

pub returns : goal.returns
returns c = finalize_done c.args.self.now c.in_ok-questions.ensures c.finish.ensures
