-- `number_bytes` meets its contract: the library's bytes are the definition's.
use mathlib.Core.Path.{◌∙◌}
use Rattle.bytes_numbers.proofs.Numbers.{to_le_8}
use Rattle.bytes_numbers.proofs.number_bytes.Goals as goal

pub returns : goal.returns
returns c = c.to_le_bytes.ensures ∙ to_le_8 c.args.x
