-- `ChunkState::feed_word` meets its contract.
use mathlib.Core.Path.{refl, ap, sym, ◌∙◌}
use native.Mathlib.Omega.{arith}
use Rattle.theory_laws.specs.Lists.{le_bytes}
use Rattle.theory_laws.proofs.Lists.{length-le_bytes}
use Rattle.hash_chunk.specs.State as S
use Rattle.hash_chunk.proofs.Feed.{fits_after, fed_then}
use Rattle.theory_laws.proofs.Bytes.{le_bytes-joined}
use Rattle.hash_chunk.proofs.state.ChunkState.feed_word.Goals as goal

pub feed_number-requires : goal.feed_number-requires
feed_number-requires c =
    let a = c.args in fits_after a.self _ (le_bytes 8 a.lo) 8 8 16 c.feed_number-t.ensures (length-le_bytes 8 a.lo) refl c.requires

pub returns : goal.returns
returns c =
    let a = c.args in fed_then a.self (le_bytes 8 a.lo) (le_bytes 8 a.hi) c.feed_number-t.ensures c.feed_number.ensures
    ∙ ap (S.fed a.self) (sym (le_bytes-joined 8 8 a.hi a.lo (omega arith)))
