-- `hash_modes::material_mode` meets its contract.
use Rattle.hash_modes.proofs.Modes.{material_key}
use Rattle.hash_modes.proofs.material_mode.Goals as goal

pub returns : goal.returns
returns c = material_key _ _ _ _ c.iv.ensures c.digest_of-d.ensures c.key_words.ensures
