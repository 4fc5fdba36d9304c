-- `hash_modes::keyed_digest` meets its contract.
use borrow.Author.Tests.{ne_eqb}
use Rattle.hash_modes.proofs.Modes.{keyed_made}
use Rattle.hash_modes.specs.Answers.{keyed_digest_of}
use Rattle.hash_modes.proofs.keyed_digest.Goals as goal

pub returns-then-key-ne32 : goal.returns-then-key-ne32
unfolding keyed_digest_of
returns-then-key-ne32 c = rw (ne_eqb _ _ c.if-key-ne32.true)

pub returns : goal.returns
returns c =
    keyed_made _ _ _ _ c.if-key-ne32.false c.key_words.ensures c.digest_with.ensures
