-- `record_query_check::holds` meets its contract.
use Rattle.record_query_check.proofs.Groups.{group_room, holds_is}
use mathlib.Core.Path.{◌∙◌}
use Rattle.field_gf128.proofs.Equality.{words_equal}
use borrow.Author.Rules.{rules}
use Rattle.record_query_check.proofs.holds.Goals as goal

pub overflow_add-group_at : goal.overflow_add-group_at
overflow_add-group_at c =
    let h = group_room _ _ _ c.requires in
    search rules

pub overflow_mul-j : goal.overflow_mul-j
overflow_mul-j c =
    let h = group_room _ _ _ c.requires in
    search rules

pub overflow_add-group_at-2 : goal.overflow_add-group_at-2
overflow_add-group_at-2 c =
    let h = group_room _ _ _ c.requires in
    search rules

pub returns : goal.returns
returns c = holds_is _ _ _ _ _ _ _ _ c.requires c.in_group-j.ensures.0 c.in_group-j.ensures.1 c.word_at-v.ensures (c.eq.ensures ∙ words_equal c.word_at-v.result c.args.w (search rules) (search rules))
