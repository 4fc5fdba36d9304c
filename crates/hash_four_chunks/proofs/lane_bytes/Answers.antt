-- `hash_four_chunks::lane_bytes` meets its contract.
use mathlib.Core.Path.{ap, ◌∙◌}
use Rattle.theory_blake3.specs.Digest.{bytes_of_words32}
use Rattle.hash_four_chunks.proofs.lane_bytes.Goals as goal

pub returns : goal.returns
returns c = c.bytes_of.ensures ∙ ap bytes_of_words32 c.lane.ensures
