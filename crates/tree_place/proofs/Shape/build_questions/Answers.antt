-- `Shape::build_questions` meets its contract.
use Rattle.theory_laws.proofs.Questions.{asks}
use native.Mathlib.Omega.{arith}
use Rattle.tree_place.proofs.Asked.{build_asked, tree-bounded, first, stopped}
use Rattle.std.proofs.lemmas.Result.{err_from_is_err_and}
use Rattle.tree_place.proofs.Shape.build_questions.Goals as goal

pub returns-in_err-tree_questions : goal.returns-in_err-tree_questions
returns-in_err-tree_questions c =
    let p = err_from_is_err_and c.from_residual.result c.from_residual.ensures.1 in
    rw (p.1, p.2) (search (build_asked, stopped, c.in_err-tree_questions.ensures))

pub overflow_mul-self : goal.overflow_mul-self
overflow_mul-self c = omega (arith, tree-bounded _ _ _ c.in_ok-tree_questions.ensures)

pub returns-then-values-self : goal.returns-then-values-self
returns-then-values-self c = search (build_asked, asks, first, c.in_ok-tree_questions.ensures)

pub tree_bytes-requires : goal.tree_bytes-requires
tree_bytes-requires c = tree-bounded _ _ _ c.in_ok-tree_questions.ensures

pub returns-then-tree-tree_bytes : goal.returns-then-tree-tree_bytes
returns-then-tree-tree_bytes c = search (build_asked, asks, first, c.in_ok-tree_questions.ensures)

pub returns : goal.returns
returns c = search (build_asked, asks, first, c.in_ok-tree_questions.ensures)
