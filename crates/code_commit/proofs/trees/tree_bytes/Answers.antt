-- `code_commit::trees::tree_bytes` meets its contract.
use Rattle.theory_record.proofs.Widths.{powers}
use Rattle.theory_record.proofs.LevelTree.{groups_some, tree-bytes}
use borrow.Author.Rules.{rules}
use Rattle.code_commit.proofs.trees.tree_bytes.Goals as goal

pub overflow_mul-result : goal.overflow_mul-result
overflow_mul-result c = let h = groups_some _ (powers _) _ _ _ _ c.requires.0 c.level_groups.ensures in search rules

pub overflow_sub-result : goal.overflow_sub-result
overflow_sub-result c = let h = groups_some _ (powers _) _ _ _ _ c.requires.0 c.level_groups.ensures in search rules

pub overflow_mul-result-2 : goal.overflow_mul-result-2
overflow_mul-result-2 c = let h = groups_some _ (powers _) _ _ _ _ c.requires.0 c.level_groups.ensures in search rules

pub returns : goal.returns
returns c = tree-bytes _ (powers _) _ _ _ _ c.level_groups.ensures
