-- `bytes_reader::front` meets its contract: 32 bytes are an array of them.
use lib.Seq.{length-take-le}
use Rattle.bytes_reader.proofs.front.Goals as goal

pub unwrap-requires : goal.unwrap-requires
unwrap-requires c = c.try_into.ensures.0 (length-take-le 32 c.args.s.now c.requires)

pub returns : goal.returns
returns c = (rw c.unwrap.ensures at c.try_into.ensures.1).same
