-- `nibble` meets its contract.
use lib.Bits.{and_mask}
use Rattle.field_pack.proofs.bits.nibble.Goals as goal

pub returns : goal.returns
returns c = and_mask _ 4
