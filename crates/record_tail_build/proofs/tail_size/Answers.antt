-- `record_tail_build::tail_size` meets its contract.
use Rattle.record_tail_build.proofs.Sizes.{last-level, size_small, size_is}
use borrow.Author.Rules.{rules}
use Rattle.record_tail_build.proofs.tail_size.Goals as goal

pub overflow_mul-result : goal.overflow_mul-result
overflow_mul-result c =
    let h =
    last-level _ c.requires c.level_groups-groups.ensures c.level_width-width.ensures c.level_depth-depth.ensures in
    let s = size_small h in
    search rules

pub overflow_add-result : goal.overflow_add-result
overflow_add-result c =
    let h =
    last-level _ c.requires c.level_groups-groups.ensures c.level_width-width.ensures c.level_depth-depth.ensures in
    let s = size_small h in
    search rules

pub overflow_mul-result-2 : goal.overflow_mul-result-2
overflow_mul-result-2 c =
    let h =
    last-level _ c.requires c.level_groups-groups.ensures c.level_width-width.ensures c.level_depth-depth.ensures in
    let s = size_small h in
    search rules

pub overflow_add-result-2 : goal.overflow_add-result-2
overflow_add-result-2 c =
    let h =
    last-level _ c.requires c.level_groups-groups.ensures c.level_width-width.ensures c.level_depth-depth.ensures in
    let s = size_small h in
    search rules

pub overflow_mul-result-3 : goal.overflow_mul-result-3
overflow_mul-result-3 c =
    let h =
    last-level _ c.requires c.level_groups-groups.ensures c.level_width-width.ensures c.level_depth-depth.ensures in
    let s = size_small h in
    search rules

pub overflow_add-result-3 : goal.overflow_add-result-3
overflow_add-result-3 c =
    let h =
    last-level _ c.requires c.level_groups-groups.ensures c.level_width-width.ensures c.level_depth-depth.ensures in
    let s = size_small h in
    search rules

pub returns : goal.returns
returns c = search size_is
