-- `put_halves` meets its contract. The loop's invariant: storing the halves that are left gives the final buffer.
use Rattle.tree_message.proofs.Stores.{halves-step, halves-all}
use borrow.Author.Rules.{rules}
use Rattle.tree_message.proofs.put_halves.Goals as goal

pub loop-x-preserved : goal.loop-x-preserved
loop-x-preserved c = (search rules, search rules, search halves-step)

pub returns : goal.returns
returns c = search halves-all
