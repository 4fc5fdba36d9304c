-- `Shape::root_questions` meets its contract.
use Rattle.theory_laws.proofs.Questions.{asks}
use native.Mathlib.Omega.{arith}
use Rattle.std.proofs.lemmas.Result.{err_from_is_err_and}
use Rattle.tree_place.proofs.Asked.{root-asked, tree-bounded, first, stopped}
use Rattle.tree_place.proofs.Shape.root_questions.Goals as goal

pub returns-in_err-tree_questions : goal.returns-in_err-tree_questions
returns-in_err-tree_questions c =
    let p = err_from_is_err_and c.from_residual.result c.from_residual.ensures.1 in
    rw (p.1, p.2) (search (root-asked, stopped, c.in_err-tree_questions.ensures))

pub returns-then-place-self : goal.returns-then-place-self
returns-then-place-self c = search (root-asked, asks, first, c.in_ok-tree_questions.ensures)

pub path_bytes-requires : goal.path_bytes-requires
path_bytes-requires c = tree-bounded _ _ _ c.in_ok-tree_questions.ensures

pub returns-then-path-path_bytes : goal.returns-then-path-path_bytes
returns-then-path-path_bytes c = search (root-asked, asks, first, c.in_ok-tree_questions.ensures)

pub overflow_mul-self : goal.overflow_mul-self
overflow_mul-self c = omega (arith, tree-bounded _ _ _ c.in_ok-tree_questions.ensures)

pub returns-then-values-self : goal.returns-then-values-self
returns-then-values-self c = search (root-asked, asks, first, c.in_ok-tree_questions.ensures)

pub returns : goal.returns
returns c = search (root-asked, asks, first, c.in_ok-tree_questions.ensures)
