-- `record_query_check::pair_of` meets its contract.
use Rattle.record_query_check.proofs.Words.{pair_is}
use mathlib.Core.Path.{◌∙◌}
use Rattle.record_query_check.proofs.pair_of.Goals as goal

pub returns : goal.returns
returns c = c.folded.ensures ∙ pair_is _ _
