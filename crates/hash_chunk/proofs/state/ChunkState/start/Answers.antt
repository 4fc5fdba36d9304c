-- `ChunkState::start` meets its contract.
use mathlib.Core.Path.{refl}
use Rattle.hash_chunk.specs.State as S
use Rattle.hash_chunk.proofs.state.ChunkState.start.Goals as goal

pub returns : goal.returns
unfolding S.started
returns c = refl
