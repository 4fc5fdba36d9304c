-- `same_bytes` meets its contract: the library's test is the definition's.
use mathlib.Core.Path.{◌∙◌}
use Rattle.bytes_numbers.proofs.Same.{pointwise-same}
use Rattle.bytes_numbers.proofs.same_bytes.Goals as goal

pub returns : goal.returns
returns c = c.eq.ensures ∙ pointwise-same c.args.a.now c.args.b.now
