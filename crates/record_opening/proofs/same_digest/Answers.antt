-- `same_bytes` meets its contract: the library's test is the definition's.
use mathlib.Core.Path.{◌∙◌}
use Rattle.bytes_numbers.proofs.Same.{pointwise-same}
use Rattle.record_opening.proofs.same_digest.Goals as goal

pub returns : goal.returns
returns c = c.eq.ensures ∙ pointwise-same c.args.a c.args.b
