-- `hash_compress::low` meets its contract.
use lib.Bits.{and_mask, mask_lt}
use Rattle.hash_compress.proofs.low.Goals as goal

pub overflow_cast-result : goal.overflow_cast-result
overflow_cast-result c = record { fits = mask_lt c.args.t 32 }

pub returns : goal.returns
returns c = and_mask c.args.t 32
