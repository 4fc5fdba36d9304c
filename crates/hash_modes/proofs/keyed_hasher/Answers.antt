-- `keyed_hasher` meets its contract.
use borrow.Author.Tests.{ne_eqb}
use Rattle.hash_modes.proofs.Modes.{keyed_begun}
use Rattle.hash_modes.specs.Answers.{keyed_hasher_of}
use Rattle.hash_modes.proofs.keyed_hasher.Goals as goal

pub returns-then-key-ne32 : goal.returns-then-key-ne32
unfolding keyed_hasher_of
returns-then-key-ne32 c = rw (ne_eqb _ _ c.if-key-ne32.true)

pub returns : goal.returns
returns c = keyed_begun _ _ _ c.if-key-ne32.false c.key_words.ensures c.new_with.ensures
