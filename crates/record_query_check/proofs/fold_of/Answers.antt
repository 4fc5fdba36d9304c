-- `record_query_check::fold_of` meets its contract.
use Rattle.record_query_check.proofs.Words.{fold_is}
use Rattle.record_query_check.proofs.fold_of.Goals as goal

pub returns : goal.returns
returns c = search fold_is
