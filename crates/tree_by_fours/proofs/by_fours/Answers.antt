-- `tree_by_fours::by_fours` meets its contract.
use borrow.Author.Tests.{le-leb, lt-leb}
use Rattle.tree_by_fours.specs.helpers.Fours.{by_fours}
use Rattle.tree_by_fours.proofs.by_fours.Goals as goal

pub returns-then-size-le-STRIDE : goal.returns-then-size-le-STRIDE
unfolding by_fours
returns-then-size-le-STRIDE c = rw (le-leb _ _ c.if-size-le-STRIDE.true)

pub returns : goal.returns
unfolding by_fours
returns c = rw (lt-leb _ _ c.if-size-le-STRIDE.false)
