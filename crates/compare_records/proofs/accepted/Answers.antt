-- `compare_records::accepted` meets its contract.
use mathlib.Core.Path.{◌∙◌}
use Rattle.compare_records.proofs.Records.{accepts-is}
use Rattle.compare_records.proofs.accepted.Goals as goal

pub returns : goal.returns
returns c = c.is_ok.ensures.value ∙ accepts-is _ _ _ _ _ _ c.check_query.ensures
