-- `claim_run_parts::query_record` meets its contract: the place that is handed on has the position's number.
use borrow.Author.Rules.{rules}
use Rattle.claim_run_parts.proofs.query_record.Goals as goal

pub returns : goal.returns
returns c =
    let e = c.at-place.ensures in record { out_after = rw e at c.build_query.ensures.out_after; result_value = rw e at c.check_query.ensures }
