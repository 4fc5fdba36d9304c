-- `Hasher::update` meets its contract.
use mathlib.Core.Path.{sym}
use Rattle.std.proofs.lemmas.Result.{err_from_is_err_and}
use Rattle.hash_hasher.proofs.Ready.{ready, update_refused, update_done}
use Rattle.hash_hasher.proofs.hasher.Hasher.update.Goals as goal

pub returns-in_err-questions : goal.returns-in_err-questions
returns-in_err-questions c =
    let p = err_from_is_err_and c.from_residual.result c.from_residual.ensures.1 in rw (p.1, p.2) (update_refused c.args.self c.args.input.now _ c.in_err-questions.ensures)

pub absorb-requires : goal.absorb-requires
absorb-requires c = (ready _ _ (sym c.in_ok-questions.ensures)).counts

pub returns : goal.returns
returns c =
    update_done c.args.self c.args.input.now c.in_ok-questions.ensures c.absorb.ensures
