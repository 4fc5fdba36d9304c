-- `hash_modes::keyed_mode` meets its contract.
use Rattle.hash_modes.proofs.Modes.{same_key}
use Rattle.hash_modes.proofs.keyed_mode.Goals as goal

pub returns : goal.returns
returns c = same_key _ _ _ c.key_words.ensures
