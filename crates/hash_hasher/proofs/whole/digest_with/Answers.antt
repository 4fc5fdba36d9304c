-- `digest_with` meets its contract.
use borrow.Author.Tests.{lt-leb, le-leb}
use Rattle.hash_hasher.specs.Whole as S
use Rattle.hash_hasher.proofs.whole.digest_with.Goals as goal

pub returns-then-input-gt-MOST_BYTES : goal.returns-then-input-gt-MOST_BYTES
unfolding S.digest_of
returns-then-input-gt-MOST_BYTES c = rw (lt-leb _ _ c.if-input-gt-MOST_BYTES.true)

pub returns : goal.returns
unfolding S.digest_of
returns c = rw (le-leb _ _ c.if-input-gt-MOST_BYTES.false, c.digest_of.ensures)
