-- `hash_modes::hash_mode` meets its contract.
use Rattle.hash_modes.proofs.Modes.{same_key}
use Rattle.hash_modes.proofs.hash_mode.Goals as goal

pub returns : goal.returns
returns c = same_key _ _ _ c.iv.ensures
