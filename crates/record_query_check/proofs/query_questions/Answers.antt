-- `record_query_check::query_questions` meets its contract.
use Rattle.record_query_check.proofs.Numbers.{wrong_size, wrong_challenges, wrong_roots, long_base, high_position, not_whole, other-count, none_says_no}
use Rattle.code_level.proofs.Sizes.{sizes-said}
use mathlib.Core.Path.{refl}
use Rattle.std.proofs.lemmas.Result.{err_from_is_err_and}
use Rattle.theory_laws.proofs.Refusals.{never}
use borrow.Author.Rules.{rules}
use Rattle.record_query_check.proofs.query_questions.Goals as goal

pub returns-in_err-size_questions : goal.returns-in_err-size_questions
returns-in_err-size_questions c =
    let p = err_from_is_err_and c.from_residual.result c.from_residual.ensures.1 in
    rw (p.1, p.2) (wrong_size _ _ _ _ _ _ c.in_err-size_questions.ensures (never _))

pub overflow_mul-n : goal.overflow_mul-n
overflow_mul-n c =
    let h = sizes-said _ _ _ c.in_ok-size_questions.ensures refl in
    search rules

pub returns-then-challenges-n : goal.returns-then-challenges-n
returns-then-challenges-n c = wrong_challenges _ _ _ _ _ _ c.in_ok-size_questions.ensures refl c.if-challenges-n.true

pub overflow_add-n : goal.overflow_add-n
overflow_add-n c =
    let h = sizes-said _ _ _ c.in_ok-size_questions.ensures refl in
    search rules

pub overflow_mul-n-2 : goal.overflow_mul-n-2
overflow_mul-n-2 c =
    let h = sizes-said _ _ _ c.in_ok-size_questions.ensures refl in
    search rules

pub returns-then-roots-n : goal.returns-then-roots-n
returns-then-roots-n c = wrong_roots _ _ _ _ _ _ c.in_ok-size_questions.ensures refl c.if-challenges-n.false c.if-roots-n.true

pub returns-then-deposit-gt200 : goal.returns-then-deposit-gt200
returns-then-deposit-gt200 c = long_base _ _ _ _ _ _ c.in_ok-size_questions.ensures refl c.if-challenges-n.false c.if-roots-n.false c.if-deposit-gt200.true

pub level_length-requires : goal.level_length-requires
level_length-requires c =
    let h = sizes-said _ _ _ c.in_ok-size_questions.ensures refl in
    search rules

pub returns-then-index-level_length : goal.returns-then-index-level_length
returns-then-index-level_length c =
    high_position _ _ _ _ _ _ c.in_ok-size_questions.ensures refl c.if-challenges-n.false c.if-roots-n.false
    c.if-deposit-gt200.false _ c.index.ensures _ c.level_length.ensures c.if-index-level_length.true

pub returns-then-not-query_whole : goal.returns-then-not-query_whole
returns-then-not-query_whole c =
    not_whole _ _ _ _ _ _ c.in_ok-size_questions.ensures refl c.if-challenges-n.false c.if-roots-n.false
    c.if-deposit-gt200.false _ c.index.ensures _ c.level_length.ensures c.if-index-level_length.false _ c.query_whole.ensures
    c.if-not-query_whole.true

pub returns-then-count_at-n : goal.returns-then-count_at-n
returns-then-count_at-n c =
    other-count _ _ _ _ _ _ c.in_ok-size_questions.ensures refl c.if-challenges-n.false c.if-roots-n.false
    c.if-deposit-gt200.false _ c.index.ensures _ c.level_length.ensures c.if-index-level_length.false _ c.query_whole.ensures
    c.if-not-query_whole.false _ c.count_at.ensures.0 c.if-count_at-n.true

pub returns : goal.returns
returns c =
    none_says_no _ _ _ _ _ _ c.in_ok-size_questions.ensures refl c.if-challenges-n.false c.if-roots-n.false
    c.if-deposit-gt200.false _ c.index.ensures _ c.level_length.ensures c.if-index-level_length.false _ c.query_whole.ensures
    c.if-not-query_whole.false _ c.count_at.ensures.0 c.if-count_at-n.false
