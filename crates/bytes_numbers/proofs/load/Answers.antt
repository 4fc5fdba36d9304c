-- `load` meets its contract: the slice of 32 bytes is an array of them.
use mathlib.Core.Path.{◌∙◌}
use Rattle.theory_laws.proofs.Lists.{lent-part}
use Rattle.bytes_numbers.proofs.load.Goals as goal

pub returns : goal.returns
returns c = (rw c.unwrap.ensures at c.try_into.ensures.1).same ∙ lent-part 32 c.args.from c.args.s.now
