-- `record_query_check::level_questions` meets its contract.
use Rattle.tree_place.specs.Place.{index}
use Rattle.theory_record.specs.Lent.{fixed_by}
use Rattle.record_query_check.specs.helpers.Level.{level_asked}
use Rattle.record_query_check.proofs.Again.{known_read, c-known-read}
use Rattle.record_query_check.proofs.Level.{pair_small, room-there, a_says_no, c_says_no, FoldDecides, fold_decides}
use mathlib.Core.Path.{refl, ◌∙◌}
use Rattle.field_gf128.proofs.Equality.{words_equal}
use Rattle.std.proofs.lemmas.Result.{err_from_is_err_and}
use Rattle.theory_laws.proofs.Refusals.{never}
use native.Mathlib.Omega.{arith}
use borrow.Author.Rules.{rules}
use Rattle.record_query_check.proofs.level_questions.Goals as goal
use Rattle.record_query_check.proofs.level_questions.Goals.{After-eq}

-- ---- what is asked of the code

pub overflow_add-at : goal.overflow_add-at
overflow_add-at c =
    let h = room-there c.requires in
    search rules

pub overflow_add-at-2 : goal.overflow_add-at-2
overflow_add-at-2 c =
    let h = room-there c.requires in
    search rules

pub a_questions-requires : goal.a_questions-requires
a_questions-requires c =
    let there = c.requires in
    let pair = c.pair_of-q.ensures in
    record {
      readable = (room-there there).a_readable;
      pair_most = pair_small _ _ there.allowed there.level_low pair;
      level_low = there.level_low;
      known = known_read _ _ _ _ _ _ _ _ pair c.load-ra.ensures there.known;
    }

pub returns-in_err-a_questions : goal.returns-in_err-a_questions
returns-in_err-a_questions c =
    let p = err_from_is_err_and c.from_residual.result c.from_residual.ensures.1 in
    rw (p.1, p.2)
    (a_says_no _ _ _ _ _ _ _ _ _ _ _ _ c.requires.read c.word_at-a.ensures c.word_at-b.ensures
    c.word_at-c.ensures c.pair_of-q.ensures _ c.load-ra.ensures _ c.in_err-a_questions.ensures (never _))

pub overflow_add-l : goal.overflow_add-l
overflow_add-l c =
    let p = c.requires in
    omega (arith, p.level_low, p.allowed.n_most)

pub overflow_mul-l-2 : goal.overflow_mul-l-2
overflow_mul-l-2 c =
    let p = c.requires in
    omega (arith, p.level_low, p.allowed.n_most)

pub load-rc-requires : goal.load-rc-requires
load-rc-requires c =
    let p = c.requires in
    omega (arith, p.level_low, p.allowed.roots_long)

pub overflow_add-l-2 : goal.overflow_add-l-2
overflow_add-l-2 c =
    let p = c.requires in
    omega (arith, p.level_low, p.allowed.n_most)

pub c_questions-requires : goal.c_questions-requires
c_questions-requires c =
    let there = c.requires in
    ((room-there there).c_readable, c-known-read _ _ _ _ _ _ _ _ c.pair_of-q.ensures c.load-rc.ensures there.c_known)

pub returns-in_err-c_questions : goal.returns-in_err-c_questions
returns-in_err-c_questions c =
    let p = err_from_is_err_and c.from_residual-in_err-c_questions.result c.from_residual-in_err-c_questions.ensures.1 in
    rw (p.1, p.2)
    (c_says_no _ _ _ _ _ _ _ _ _ _ _ _ c.requires.read c.word_at-a.ensures c.word_at-b.ensures
    c.word_at-c.ensures c.pair_of-q.ensures _ c.load-ra.ensures _ c.in_ok-a_questions.ensures refl _
    c.load-rc.ensures _ c.in_err-c_questions.ensures (never _))

pub get-r-requires : goal.get-r-requires
get-r-requires c =
    let p = c.requires in
    omega (arith, p.level_low, p.allowed.challenges_long)

-- whether the fold is c decides the level's number
decided : (c : After-eq)
    → let a = c.args in
    FoldDecides c.eq.result (level_asked (fixed_by a.deposit) (index a.position) a.challenges.now a.roots.now a.l a.s.now a.at)
decided c =
    fold_decides _ _ _ _ _ _ _ _ _ _ _ _ c.requires.read c.word_at-a.ensures c.word_at-b.ensures
    c.word_at-c.ensures c.pair_of-q.ensures _ c.load-ra.ensures _ c.in_ok-a_questions.ensures refl _
    c.load-rc.ensures _ c.in_ok-c_questions.ensures refl _ c.get-r.ensures _ c.fold_of-f.ensures _
    (c.eq.ensures ∙ words_equal c.fold_of-f.result c.word_at-c.result (search rules) (search rules))

pub returns-then-eq : goal.returns-then-eq
returns-then-eq c = (decided (goal.at.returns-then-eq c).After-eq).all_hold c.if-eq.true

pub returns : goal.returns
returns c = (decided (goal.at.returns c).After-eq).not_folded c.if-eq.false
