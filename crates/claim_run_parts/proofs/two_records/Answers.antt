-- `claim_run_parts::two_records` meets its contract: the place that is handed on has the position's number.
use borrow.Author.Rules.{rules}
use Rattle.claim_run_parts.proofs.two_records.Goals as goal

pub returns : goal.returns
returns c =
    let e = c.at-place.ensures in
    record {
      result_value = rw e at c.compare.ensures.result_value;
      one_after = rw e at c.compare.ensures.one_after;
      two_after = rw e at c.compare.ensures.two_after;
    }
