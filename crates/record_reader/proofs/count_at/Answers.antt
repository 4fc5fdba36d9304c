-- `count_at` meets its contract: the number at the front of the window.
use Rattle.record_reader.proofs.Windows.{count-read}
use borrow.Author.Rules.{rules}
use Rattle.record_reader.proofs.count_at.Goals as goal

pub returns : goal.returns
returns c = (search count-read, search rules)
