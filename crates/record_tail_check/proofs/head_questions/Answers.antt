-- `record_tail_check::head_questions` meets its contract.
use Rattle.record_tail_check.proofs.Numbers.{wrong_size, wrong_root, long_base, not_whole, other-count, none_says_no}
use Rattle.code_level.proofs.Sizes.{sizes-said}
use mathlib.Core.Path.{refl}
use Rattle.std.proofs.lemmas.Result.{err_from_is_err_and}
use Rattle.theory_laws.proofs.Refusals.{never}
use borrow.Author.Rules.{rules}
use Rattle.record_tail_check.proofs.head_questions.Goals as goal

pub returns-in_err-size_questions : goal.returns-in_err-size_questions
returns-in_err-size_questions c =
    let p = err_from_is_err_and c.from_residual.result c.from_residual.ensures.1 in
    rw (p.1, p.2) (wrong_size _ _ _ _ c.in_err-size_questions.ensures (never _))

pub returns-then-root-ne32 : goal.returns-then-root-ne32
returns-then-root-ne32 c = wrong_root _ _ _ _ c.in_ok-size_questions.ensures refl c.if-root-ne32.true

pub returns-then-deposit-gt200 : goal.returns-then-deposit-gt200
returns-then-deposit-gt200 c = long_base _ _ _ _ c.in_ok-size_questions.ensures refl c.if-root-ne32.false c.if-deposit-gt200.true

pub returns-then-not-tail_whole : goal.returns-then-not-tail_whole
returns-then-not-tail_whole c = not_whole _ _ _ _ c.in_ok-size_questions.ensures refl c.if-root-ne32.false c.if-deposit-gt200.false _ c.tail_whole.ensures c.if-not-tail_whole.true

pub level_groups-requires : goal.level_groups-requires
level_groups-requires c =
    let h =
    (sizes-said _ _ _ c.in_ok-size_questions.ensures refl) in
    search rules

pub returns-then-count_at-level_groups : goal.returns-then-count_at-level_groups
returns-then-count_at-level_groups c =
    other-count _ _ _ _ c.in_ok-size_questions.ensures refl c.if-root-ne32.false c.if-deposit-gt200.false _ c.tail_whole.ensures
    c.if-not-tail_whole.false _ _ c.count_at.ensures.0 c.level_groups.ensures c.if-count_at-level_groups.true

pub returns : goal.returns
returns c =
    none_says_no _ _ _ _ c.in_ok-size_questions.ensures refl c.if-root-ne32.false c.if-deposit-gt200.false _ c.tail_whole.ensures
    c.if-not-tail_whole.false _ _ c.count_at.ensures.0 c.level_groups.ensures c.if-count_at-level_groups.false
