-- `compare_records::lent_questions` meets its contract.
use mathlib.Core.Path.{refl}
use Rattle.std.proofs.lemmas.Result.{err_from_is_err_and}
use Rattle.compare_records.proofs.Lent.{wrong_size, wrong_challenges, wrong_roots, wrong_first, wrong_second, long_base, high_position, none_says_no}
use Rattle.code_level.proofs.Sizes.{sizes-said}
use borrow.Author.Rules.{rules}
use Rattle.compare_records.proofs.lent_questions.Goals as goal

pub returns-in_err-size_questions : goal.returns-in_err-size_questions
returns-in_err-size_questions c =
    let p = err_from_is_err_and c.from_residual.result c.from_residual.ensures.1 in
    rw (p.1, p.2) (wrong_size _ _ _ _ _ _ _ _ _ c.in_err-size_questions.ensures)

pub overflow_mul-n : goal.overflow_mul-n
overflow_mul-n c =
    let h = sizes-said _ _ 0 c.in_ok-size_questions.ensures refl in
    search rules

pub returns-then-challenges-n : goal.returns-then-challenges-n
returns-then-challenges-n c = wrong_challenges _ _ _ _ _ _ _ _ c.in_ok-size_questions.ensures c.if-challenges-n.true

pub overflow_add-n : goal.overflow_add-n
overflow_add-n c =
    let h = sizes-said _ _ 0 c.in_ok-size_questions.ensures refl in
    search rules

pub overflow_mul-n-2 : goal.overflow_mul-n-2
overflow_mul-n-2 c =
    let h = sizes-said _ _ 0 c.in_ok-size_questions.ensures refl in
    search rules

pub returns-then-roots-n : goal.returns-then-roots-n
returns-then-roots-n c = wrong_roots _ _ _ _ _ _ _ _ c.in_ok-size_questions.ensures c.if-challenges-n.false c.if-roots-n.true

pub returns-then-first-ne-MESSAGE_BUFFER : goal.returns-then-first-ne-MESSAGE_BUFFER
returns-then-first-ne-MESSAGE_BUFFER c =
    wrong_first _ _ _ _ _ _ _ _ c.in_ok-size_questions.ensures c.if-challenges-n.false c.if-roots-n.false c.if-first-ne-MESSAGE_BUFFER.true

pub returns-then-second-ne-MESSAGE_BUFFER : goal.returns-then-second-ne-MESSAGE_BUFFER
returns-then-second-ne-MESSAGE_BUFFER c =
    wrong_second _ _ _ _ _ _ _ _ c.in_ok-size_questions.ensures c.if-challenges-n.false c.if-roots-n.false c.if-first-ne-MESSAGE_BUFFER.false
    c.if-second-ne-MESSAGE_BUFFER.true

pub returns-then-base-gt200 : goal.returns-then-base-gt200
returns-then-base-gt200 c =
    long_base _ _ _ _ _ _ _ _ c.in_ok-size_questions.ensures c.if-challenges-n.false c.if-roots-n.false c.if-first-ne-MESSAGE_BUFFER.false
    c.if-second-ne-MESSAGE_BUFFER.false c.if-base-gt200.true

pub level_length-requires : goal.level_length-requires
level_length-requires c =
    let h = sizes-said _ _ 0 c.in_ok-size_questions.ensures refl in
    search rules

pub returns-then-index-level_length : goal.returns-then-index-level_length
returns-then-index-level_length c =
    high_position _ _ _ _ _ _ _ _ c.in_ok-size_questions.ensures c.if-challenges-n.false c.if-roots-n.false c.if-first-ne-MESSAGE_BUFFER.false
    c.if-second-ne-MESSAGE_BUFFER.false c.if-base-gt200.false _ c.index.ensures _ c.level_length.ensures c.if-index-level_length.true

pub returns : goal.returns
returns c =
    none_says_no _ _ _ _ _ _ _ _ c.in_ok-size_questions.ensures c.if-challenges-n.false c.if-roots-n.false c.if-first-ne-MESSAGE_BUFFER.false
    c.if-second-ne-MESSAGE_BUFFER.false c.if-base-gt200.false _ c.index.ensures _ c.level_length.ensures c.if-index-level_length.false
