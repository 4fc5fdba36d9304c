-- `tree_four_ways::chosen` meets its contract.
use borrow.Author.Tests.{lt-ltb, le-ltb}
use Rattle.tree_four_ways.proofs.chosen.Goals as goal

pub returns-then-level-depth : goal.returns-then-level-depth
returns-then-level-depth c = search (lt-ltb, le-ltb)

pub returns-else-level-depth : goal.returns-else-level-depth
returns-else-level-depth c = search (lt-ltb, le-ltb)
