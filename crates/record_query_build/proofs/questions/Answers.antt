-- `record_query_build::questions` meets its contract.
use Rattle.record_query_build.proofs.Numbers.{wrong_size, wrong_levels, wrong_trees, wrong_out, wrong_position, none_says_no}
use Rattle.code_level.proofs.Totals.{levels_fit}
use Rattle.code_level.proofs.Sizes.{sizes-said}
use Rattle.theory_record.proofs.Ranges.{sizes-small}
use mathlib.Core.Path.{refl}
use Rattle.std.proofs.lemmas.Result.{err_from_is_err_and}
use Rattle.theory_laws.proofs.Refusals.{never}
use borrow.Author.Rules.{rules}
use Rattle.record_query_build.proofs.questions.Goals as goal

pub returns-in_err-size_questions : goal.returns-in_err-size_questions
returns-in_err-size_questions c =
    let p = err_from_is_err_and c.from_residual.result c.from_residual.ensures.1 in
    rw (p.1, p.2) (wrong_size _ _ _ _ _ _ _ _ c.in_err-size_questions.ensures (never _))

pub levels_length-requires : goal.levels_length-requires
levels_length-requires c = sizes-said _ _ _ c.in_ok-size_questions.ensures refl

pub overflow_mul-levels_length : goal.overflow_mul-levels_length
overflow_mul-levels_length c =
    let h = levels_fit _ _ (sizes-said _ _ _ c.in_ok-size_questions.ensures refl) in
    search rules

pub returns-then-levels-levels_length : goal.returns-then-levels-levels_length
returns-then-levels-levels_length c =
    wrong_levels _ _ _ _ _ _ _ _ c.in_ok-size_questions.ensures refl _ c.levels_length.ensures c.if-levels-levels_length.true

pub trees_size-requires : goal.trees_size-requires
trees_size-requires c = sizes-said _ _ _ c.in_ok-size_questions.ensures refl

pub returns-then-trees-trees_size : goal.returns-then-trees-trees_size
returns-then-trees-trees_size c =
    wrong_trees _ _ _ _ _ _ _ _ c.in_ok-size_questions.ensures refl _ c.levels_length.ensures
    c.if-levels-levels_length.false _ c.trees_size.ensures c.if-trees-trees_size.true

pub query_size-requires : goal.query_size-requires
query_size-requires c =
    sizes-said _ _ _ c.in_ok-size_questions.ensures refl

pub returns-then-out-query_size : goal.returns-then-out-query_size
returns-then-out-query_size c =
    wrong_out _ _ _ _ _ _ _ _ c.in_ok-size_questions.ensures refl _ c.levels_length.ensures
    c.if-levels-levels_length.false _ c.trees_size.ensures c.if-trees-trees_size.false _ c.query_size.ensures
    c.if-out-query_size.true

pub level_length-requires : goal.level_length-requires
level_length-requires c =
    let h = sizes-said _ _ _ c.in_ok-size_questions.ensures refl in
    (sizes-small _ _ h, search rules)

pub returns-then-index-level_length : goal.returns-then-index-level_length
returns-then-index-level_length c =
    wrong_position _ _ _ _ _ _ _ _ c.in_ok-size_questions.ensures refl _ c.levels_length.ensures
    c.if-levels-levels_length.false _ c.trees_size.ensures c.if-trees-trees_size.false _ c.query_size.ensures
    c.if-out-query_size.false _ c.index.ensures _ c.level_length.ensures c.if-index-level_length.true

pub returns : goal.returns
returns c =
    none_says_no _ _ _ _ _ _ _ _ c.in_ok-size_questions.ensures refl _ c.levels_length.ensures
    c.if-levels-levels_length.false _ c.trees_size.ensures c.if-trees-trees_size.false _ c.query_size.ensures
    c.if-out-query_size.false _ c.index.ensures _ c.level_length.ensures c.if-index-level_length.false
