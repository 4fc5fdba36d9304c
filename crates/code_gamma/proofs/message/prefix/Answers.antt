-- `code_gamma::message::prefix` meets its contract: piece by piece, the state is fed the prefix.
use mathlib.Core.Path.{◌≡◌, refl, ap, ◌∙◌}
use mathlib.Core.List.{List, []}
use Prim.Native.Nat.{ℕ}
use native.Mathlib.Omega.{arith}
use lib.Dec.{lit≤}
use Rattle.theory_laws.specs.Lists.{le_bytes}
use Rattle.theory_blake3.specs.Compression.{iv}
use Rattle.theory_laws.proofs.Lists.{length-le_bytes}
use Rattle.hash_chunk.specs.declared.state.ChunkState.{ChunkState}
use Rattle.hash_chunk.specs.State.{started, fed}
use Rattle.hash_chunk.proofs.Feed.{fed_then}
use Rattle.theory_merkle.specs.Message.{prefixed}
use Rattle.theory_code.specs.Gammas.{gamma_label}
use Rattle.code_gamma.proofs.Messages.{labelled, named, sized_by, prefix-is, length-labelled, length-named, length-sized_by, new, fits-new}
use Rattle.code_gamma.proofs.message.prefix.Goals as goal
use Rattle.code_gamma.proofs.message.prefix.Goals.{After-feed_number_part-sized, After-feed_part-labelled, After-feed_part-named}

-- the state after each piece
counted_is : {key : List ℕ} {empty counted : ChunkState} → key ≡ iv → empty ≡ started key 0 0 → counted ≡ fed empty (le_bytes 8 6)
    → counted ≡ fed new (le_bytes 8 6)
counted_is keyed started_so fed_so =
    fed_so ∙ ap (λ (s : ChunkState). fed s (le_bytes 8 6)) (started_so ∙ ap (λ (key : List ℕ). started key 0 0) keyed)

labelled-is : (c : After-feed_part-labelled) → c.feed_part-labelled.result ≡ fed new labelled
unfolding prefixed gamma_label
labelled-is c = fed_then _ _ _ (counted_is c.iv.ensures c.start-empty.ensures c.feed_number-counted.ensures) c.feed_part-labelled.ensures

named-is : (c : After-feed_part-named) → c.feed_part-named.result ≡ fed new (named c.args.domain.now)
unfolding prefixed
named-is c = fed_then _ _ _ (labelled-is (goal.at.feed_number_part-sized-requires c).After-feed_part-labelled) c.feed_part-named.ensures

sized-is : (c : After-feed_number_part-sized)
    → c.feed_number_part-sized.result ≡ fed new (sized_by c.args.domain.now c.args.n)
sized-is c = fed_then _ _ _ (named-is (goal.at.feed_number_part-requires c).After-feed_part-named) c.feed_number_part-sized.ensures

pub feed_number-counted-requires : goal.feed_number-counted-requires
unfolding fed
feed_number-counted-requires c = fits-new _ [] 0 8 (c.start-empty.ensures ∙ ap (λ (key : List ℕ). started key 0 0) c.iv.ensures) refl (lit≤ tt)

pub feed_part-labelled-requires : goal.feed_part-labelled-requires
feed_part-labelled-requires c = fits-new _ (le_bytes 8 6) 8 29 (counted_is c.iv.ensures c.start-empty.ensures c.feed_number-counted.ensures) (length-le_bytes 8 6) (lit≤ tt)

pub feed_part-named-requires : goal.feed_part-named-requires
feed_part-named-requires c = fits-new _ labelled 37 _ (labelled-is c) length-labelled (omega arith)

pub feed_number_part-sized-requires : goal.feed_number_part-sized-requires
feed_number_part-sized-requires c = fits-new _ _ _ 16 (named-is c) (length-named _) (omega arith)

pub feed_number_part-requires : goal.feed_number_part-requires
feed_number_part-requires c = fits-new _ _ _ 16 (sized-is c) (length-sized_by _ _) (omega arith)

pub returns : goal.returns
returns c =
    let a = c.args in fed_then _ _ _ (sized-is (goal.at.returns c).After-feed_number_part-sized) c.feed_number_part.ensures ∙ ap (fed new) (prefix-is a.domain.now a.n a.k)
