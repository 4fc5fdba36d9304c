-- `record_tail_build::questions` meets its contract.
use Rattle.record_tail_build.proofs.Sizes.{wrong_size, wrong_level, wrong_tree, wrong_out, none_says_no, length-small, groups-small}
use Rattle.code_level.proofs.Sizes.{sizes-said}
use mathlib.Core.Path.{refl}
use Rattle.std.proofs.lemmas.Result.{err_from_is_err_and}
use Rattle.theory_laws.proofs.Refusals.{never}
use borrow.Author.Rules.{rules}
use Rattle.record_tail_build.proofs.questions.Goals as goal

pub returns-in_err-size_questions : goal.returns-in_err-size_questions
returns-in_err-size_questions c =
    let p = err_from_is_err_and c.from_residual.result c.from_residual.ensures.1 in
    rw (p.1, p.2) (wrong_size _ _ _ _ _ _ _ c.in_err-size_questions.ensures (never _))

pub level_length-requires : goal.level_length-requires
level_length-requires c =
    let h = sizes-said _ _ _ c.in_ok-size_questions.ensures refl in
    search rules

pub overflow_mul-level_length : goal.overflow_mul-level_length
overflow_mul-level_length c =
    let h = length-small _ _ _ (sizes-said _ _ _ c.in_ok-size_questions.ensures refl) c.level_length.ensures in
    search rules

pub returns-then-level-level_length : goal.returns-then-level-level_length
returns-then-level-level_length c =
    wrong_level _ _ _ _ _ _ _ c.in_ok-size_questions.ensures refl _ c.level_length.ensures c.if-level-level_length.true

pub level_groups-requires : goal.level_groups-requires
level_groups-requires c =
    let h = sizes-said _ _ _ c.in_ok-size_questions.ensures refl in
    search rules

pub overflow_mul-level_groups : goal.overflow_mul-level_groups
overflow_mul-level_groups c =
    let sizes = sizes-said _ _ _ c.in_ok-size_questions.ensures refl in
    let h = groups-small _ _ _ _ sizes c.level_groups.ensures in
    search rules

pub overflow_sub-level_groups : goal.overflow_sub-level_groups
overflow_sub-level_groups c =
    let sizes = sizes-said _ _ _ c.in_ok-size_questions.ensures refl in
    let h = groups-small _ _ _ _ sizes c.level_groups.ensures in
    search rules

pub overflow_mul-level_groups-2 : goal.overflow_mul-level_groups-2
overflow_mul-level_groups-2 c =
    let sizes = sizes-said _ _ _ c.in_ok-size_questions.ensures refl in
    let h = groups-small _ _ _ _ sizes c.level_groups.ensures in
    search rules

pub returns-then-tree-level_groups : goal.returns-then-tree-level_groups
returns-then-tree-level_groups c =
    wrong_tree _ _ _ _ _ _ _ c.in_ok-size_questions.ensures refl _ c.level_length.ensures
    c.if-level-level_length.false _ c.level_groups.ensures c.if-tree-level_groups.true

pub tail_size-requires : goal.tail_size-requires
tail_size-requires c =
    sizes-said _ _ _ c.in_ok-size_questions.ensures refl

pub returns-then-out-tail_size : goal.returns-then-out-tail_size
returns-then-out-tail_size c =
    wrong_out _ _ _ _ _ _ _ c.in_ok-size_questions.ensures refl _ c.level_length.ensures
    c.if-level-level_length.false _ c.level_groups.ensures c.if-tree-level_groups.false _ c.tail_size.ensures c.if-out-tail_size.true

pub returns : goal.returns
returns c =
    none_says_no _ _ _ _ _ _ _ c.in_ok-size_questions.ensures refl _ c.level_length.ensures
    c.if-level-level_length.false _ c.level_groups.ensures c.if-tree-level_groups.false _ c.tail_size.ensures c.if-out-tail_size.false
