-- `record_query_build::group_size` meets its contract.
use Rattle.record_query_build.proofs.Sizes.{width_small, group_size-is, group_small}
use borrow.Author.Rules.{rules}
use Rattle.record_query_build.proofs.group_size.Goals as goal

pub overflow_mul-result : goal.overflow_mul-result
overflow_mul-result c =
    let h = width_small _ _ _ _ _ 0 c.level_width.ensures in
    search rules

pub overflow_add-result : goal.overflow_add-result
overflow_add-result c =
    let h = width_small _ _ _ _ _ 0 c.level_width.ensures in
    search rules

pub overflow_mul-result-2 : goal.overflow_mul-result-2
overflow_mul-result-2 c =
    let h = group_small _ _ _ _ _ _ c.level_width.ensures c.level_depth.ensures c.requires.0 in
    search rules

pub overflow_add-result-2 : goal.overflow_add-result-2
overflow_add-result-2 c =
    let h = group_small _ _ _ _ _ _ c.level_width.ensures c.level_depth.ensures c.requires.0 in
    search rules

pub returns : goal.returns
returns c =
    let width = c.level_width.ensures in
    let depth = c.level_depth.ensures in
    (group_size-is _ _ _ _ _ _ width depth, group_small _ _ _ _ _ _ width depth c.requires.0)
