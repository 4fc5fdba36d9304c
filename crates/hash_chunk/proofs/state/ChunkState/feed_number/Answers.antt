-- `ChunkState::feed_number` meets its contract.
use mathlib.Core.Path.{ap, ◌∙◌}
use Rattle.hash_chunk.specs.State as S
use Rattle.hash_chunk.proofs.state.ChunkState.feed_number.Goals as goal

pub returns : goal.returns
returns c = c.feed.ensures ∙ ap (S.fed _) c.number_bytes.ensures
