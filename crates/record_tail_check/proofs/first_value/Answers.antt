-- `record_tail_check::first_value` meets its contract.
use Rattle.record_tail_check.proofs.Groups.{no_first, first-there}
use Rattle.record_tail_check.proofs.first_value.Goals as goal

pub returns-then-count_at-eq0 : goal.returns-then-count_at-eq0
returns-then-count_at-eq0 c = no_first _ _ _ c.requires c.count_at.ensures.0 c.if-count_at-eq0.true

pub returns : goal.returns
returns c = search first-there
