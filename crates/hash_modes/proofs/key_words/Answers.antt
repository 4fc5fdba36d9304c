-- `hash_modes::key_words` meets its contract.
use Rattle.hash_modes.proofs.Modes.{words_of_key}
use Rattle.hash_modes.proofs.key_words.Goals as goal

pub returns : goal.returns
returns c =
    words_of_key _ _ _ c.requires c.last_words.ensures c.first_eight.ensures
