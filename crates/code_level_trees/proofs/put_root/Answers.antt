-- `code_level_trees::put_root` meets its contract.
use Rattle.bytes_numbers.proofs.Stores.{same_put}
use borrow.Author.Rules.{rules}
use Rattle.code_level_trees.proofs.put_root.Goals as goal

pub returns : goal.returns
returns c =
    same_put _ _ _ 32 _ _ _ _ (search rules) c.load-root.ensures c.put.ensures
