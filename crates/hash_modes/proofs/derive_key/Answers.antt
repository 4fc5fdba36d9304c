-- `hash_modes::derive_key` meets its contract.
use borrow.Author.Tests.{lt-leb}
use Rattle.hash_modes.proofs.Modes.{derive_made}
use Rattle.hash_modes.specs.Answers.{derived_key_of}
use Rattle.hash_modes.proofs.derive_key.Goals as goal

pub returns-then-context-gt-MOST_BYTES : goal.returns-then-context-gt-MOST_BYTES
unfolding derived_key_of
returns-then-context-gt-MOST_BYTES c = rw (lt-leb _ _ c.if-context-gt-MOST_BYTES.true)

pub returns : goal.returns
returns c =
    derive_made _ _ _ _ c.if-context-gt-MOST_BYTES.false c.material_mode.ensures c.digest_with.ensures
