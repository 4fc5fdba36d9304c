-- `Shape::open_questions` meets its contract.
use Rattle.theory_laws.proofs.Questions.{asks}
use Rattle.std.proofs.lemmas.Result.{err_from_is_err_and}
use Rattle.tree_place.proofs.Asked.{open_asked, shape-bounded, first, stopped}
use Rattle.tree_place.proofs.Shape.open_questions.Goals as goal

pub returns-in_err-questions : goal.returns-in_err-questions
returns-in_err-questions c =
    let p = err_from_is_err_and c.from_residual.result c.from_residual.ensures.1 in
    rw (p.1, p.2) (search (open_asked, stopped, c.in_err-questions.ensures))

pub returns-then-place-self : goal.returns-then-place-self
returns-then-place-self c = search (open_asked, asks, first, c.in_ok-questions.ensures)

pub tree_bytes-requires : goal.tree_bytes-requires
tree_bytes-requires c = shape-bounded _ _ c.in_ok-questions.ensures

pub returns-then-tree-tree_bytes : goal.returns-then-tree-tree_bytes
returns-then-tree-tree_bytes c = search (open_asked, asks, first, c.in_ok-questions.ensures)

pub path_bytes-requires : goal.path_bytes-requires
path_bytes-requires c = shape-bounded _ _ c.in_ok-questions.ensures

pub returns-then-path-path_bytes : goal.returns-then-path-path_bytes
returns-then-path-path_bytes c = search (open_asked, asks, first, c.in_ok-questions.ensures)

pub returns : goal.returns
returns c = search (open_asked, asks, first, c.in_ok-questions.ensures) depth 14 fits 4000
