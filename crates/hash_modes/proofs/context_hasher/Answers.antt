-- `context_hasher` meets its contract.
use borrow.Author.Tests.{lt-leb}
use Rattle.hash_modes.proofs.Modes.{context_begun}
use Rattle.hash_modes.specs.Answers.{context_hasher_of}
use Rattle.hash_modes.proofs.context_hasher.Goals as goal

pub returns-then-context-gt-MOST_BYTES : goal.returns-then-context-gt-MOST_BYTES
unfolding context_hasher_of
returns-then-context-gt-MOST_BYTES c = rw (lt-leb _ _ c.if-context-gt-MOST_BYTES.true)

pub returns : goal.returns
returns c = context_begun _ _ _ c.if-context-gt-MOST_BYTES.false c.material_mode.ensures c.new_with.ensures
