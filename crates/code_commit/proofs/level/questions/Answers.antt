-- `code_commit::level::questions` meets its contract.
use mathlib.Core.Path.{◌≡◌, refl}
use Rattle.std.proofs.lemmas.Result.{err_from_is_err_and}
use Rattle.code_level.specs.Sizes.{size_number}
use Rattle.theory_laws.proofs.Questions.{asks, asks-given}
use Rattle.theory_record.proofs.Ranges.{sizes-small}
use Rattle.code_level.proofs.Sizes.{sizes-said, asks-sizes, no_sizes}
use Rattle.code_level.proofs.Totals.{length-small}
use Rattle.code_commit.specs.Level.{level_tree_number}
use borrow.Author.Rules.{rules}
use Rattle.code_commit.proofs.level.questions.Goals as goal

pub returns-in_err-size_questions : goal.returns-in_err-size_questions
unfolding level_tree_number
returns-in_err-size_questions c =
    let p = err_from_is_err_and c.from_residual.result c.from_residual.ensures.1 in
    rw (p.1, p.2) (no_sizes _ _ _ _ c.in_err-size_questions.ensures)

pub returns-then-l-n : goal.returns-then-l-n
unfolding level_tree_number
returns-then-l-n c =
    let e : 0 ≡ size_number c.args.n c.args.k = c.in_ok-size_questions.ensures in search (asks, asks-given, asks-sizes) depth 16 fits 8000

pub level_length-requires : goal.level_length-requires
level_length-requires c =
    let small = sizes-small _ _ (sizes-said _ _ _ c.in_ok-size_questions.ensures refl) in
    search rules

pub overflow_mul-level_length : goal.overflow_mul-level_length
overflow_mul-level_length c =
    let small = sizes-small _ _ (sizes-said _ _ _ c.in_ok-size_questions.ensures refl) in
    let h = length-small c.args.n c.args.k c.args.l small in
    search rules

pub returns-then-values-level_length : goal.returns-then-values-level_length
unfolding level_tree_number
returns-then-values-level_length c =
    let e : 0 ≡ size_number c.args.n c.args.k = c.in_ok-size_questions.ensures in search (asks, asks-given, asks-sizes) depth 16 fits 8000

pub tree_bytes-requires : goal.tree_bytes-requires
tree_bytes-requires c =
    let small = sizes-small _ _ (sizes-said _ _ _ c.in_ok-size_questions.ensures refl) in
    search rules

pub returns-then-tree-tree_bytes : goal.returns-then-tree-tree_bytes
unfolding level_tree_number
returns-then-tree-tree_bytes c =
    let e : 0 ≡ size_number c.args.n c.args.k = c.in_ok-size_questions.ensures in search (asks, asks-given, asks-sizes) depth 16 fits 8000

pub returns-then-base-gt200 : goal.returns-then-base-gt200
unfolding level_tree_number
returns-then-base-gt200 c =
    let e : 0 ≡ size_number c.args.n c.args.k = c.in_ok-size_questions.ensures in search (asks, asks-given, asks-sizes) depth 16 fits 8000

pub returns : goal.returns
unfolding level_tree_number
returns c =
    let e : 0 ≡ size_number c.args.n c.args.k = c.in_ok-size_questions.ensures in search (asks, asks-given, asks-sizes) depth 16 fits 8000
