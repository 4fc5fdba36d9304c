-- `ChunkState::finish` meets its contract.
use mathlib.Core.Path.{ap, ◌∙◌}
use Rattle.theory_blake3.specs.Compression.{cv}
use Rattle.theory_blake3.specs.Digest.{bytes_of_words32}
use Rattle.hash_chunk.specs.State as S
use Rattle.hash_chunk.proofs.state.ChunkState.finish.Goals as goal

pub returns : goal.returns
unfolding S.finished
returns c = c.bytes_of.ensures ∙ ap bytes_of_words32 (c.value.ensures ∙ ap cv (c.last-n.ensures 8))
