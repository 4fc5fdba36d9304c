-- `code_level_parts::parents_questions` meets its contract.
use mathlib.Core.Path.{◌≡◌}
use Rattle.std.proofs.lemmas.Result.{err_from_is_err_and}
use Rattle.code_level.specs.Sizes.{size_number}
use Rattle.theory_laws.proofs.Questions.{asks, asks-given}
use Rattle.code_level.proofs.Sizes.{asks-sizes, no_sizes}
use Rattle.code_level_parts.specs.Numbers.{level_parents_number}
use Rattle.code_level_parts.proofs.parents_questions.Goals as goal

pub returns-in_err-size_questions : goal.returns-in_err-size_questions
unfolding level_parents_number
returns-in_err-size_questions c =
    let p = err_from_is_err_and c.from_residual.result c.from_residual.ensures.1 in
    rw (p.1, p.2) (no_sizes _ _ _ _ c.in_err-size_questions.ensures)

pub returns-then-l-n : goal.returns-then-l-n
unfolding level_parents_number
returns-then-l-n c =
    let e : 0 ≡ size_number c.args.n c.args.k = c.in_ok-size_questions.ensures in search (asks, asks-given, asks-sizes) depth 16 fits 8000

pub returns-then-children-ne0 : goal.returns-then-children-ne0
unfolding level_parents_number
returns-then-children-ne0 c =
    let e : 0 ≡ size_number c.args.n c.args.k = c.in_ok-size_questions.ensures in search (asks, asks-given, asks-sizes) depth 16 fits 8000

pub returns-then-out-children : goal.returns-then-out-children
unfolding level_parents_number
returns-then-out-children c =
    let e : 0 ≡ size_number c.args.n c.args.k = c.in_ok-size_questions.ensures in search (asks, asks-given, asks-sizes) depth 16 fits 8000

pub returns-then-base-gt200 : goal.returns-then-base-gt200
unfolding level_parents_number
returns-then-base-gt200 c =
    let e : 0 ≡ size_number c.args.n c.args.k = c.in_ok-size_questions.ensures in search (asks, asks-given, asks-sizes) depth 16 fits 8000

pub returns : goal.returns
unfolding level_parents_number
returns c =
    let e : 0 ≡ size_number c.args.n c.args.k = c.in_ok-size_questions.ensures in search (asks, asks-given, asks-sizes) depth 16 fits 8000
