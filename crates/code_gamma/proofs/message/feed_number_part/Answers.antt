-- `code_gamma::message::feed_number_part` meets its contract.
use mathlib.Core.Path.{refl, sym, ap, ◌∙◌}
use mathlib.Core.List.{◌++◌}
use Prim.Native.Nat.{ℕ}
use Rattle.theory_laws.specs.Lists.{le_bytes}
use Rattle.theory_laws.proofs.Lists.{length-le_bytes}
use Rattle.hash_chunk.specs.State.{fed}
use Rattle.hash_chunk.proofs.Feed.{fits_after, fed_then}
use Rattle.theory_merkle.specs.Message.{prefixed}
use Rattle.code_gamma.proofs.message.feed_number_part.Goals as goal

pub feed_number-requires : goal.feed_number-requires
feed_number-requires c = fits_after c.args.s _ (le_bytes 8 8) 8 8 16 c.feed_number-t.ensures (length-le_bytes 8 8) refl c.requires

pub returns : goal.returns
unfolding prefixed
returns c =
    let x = c.args.x in fed_then _ _ _ c.feed_number-t.ensures c.feed_number.ensures
    ∙ ap (λ (m : ℕ). fed c.args.s (le_bytes 8 m ++ le_bytes 8 x)) (sym (length-le_bytes 8 x))
