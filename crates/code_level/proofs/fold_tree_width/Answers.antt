use borrow.Author.Rules.{rules}
use Rattle.theory_laws.proofs.Questions.{asks}
use Rattle.code_level.proofs.Sizes.{from_threshold, below_threshold}
use Rattle.code_level.proofs.fold_tree_width.Goals as goal

pub returns-then-len-widths : goal.returns-then-len-widths
returns-then-len-widths c = search (rules, from_threshold)

pub returns-then-len-ge2 : goal.returns-then-len-ge2
returns-then-len-ge2 c = search (asks, below_threshold)

pub returns : goal.returns
returns c = search (asks, below_threshold)
