-- `code_gamma::message::whole` meets its contract.
use mathlib.Core.Path.{refl}
use Rattle.hash_chunk.proofs.Feed.{fits_after, fed_then}
use Rattle.code_gamma.specs.helpers.Prefix.{gamma_rest}
use Rattle.code_gamma.proofs.Messages.{length-number-part}
use Rattle.code_gamma.proofs.message.whole.Goals as goal

pub feed_number_part-requires : goal.feed_number_part-requires
feed_number_part-requires c =
    fits_after c.args.common _ _ 16 16 32 c.feed_number_part-outer.ensures (length-number-part _) refl c.requires

pub returns : goal.returns
unfolding gamma_rest
returns c = fed_then _ _ _ c.feed_number_part-outer.ensures c.feed_number_part.ensures
