-- `Shape::leaves_questions` meets its contract.
use Rattle.theory_laws.proofs.Questions.{asks}
use native.Mathlib.Omega.{arith}
use Rattle.std.proofs.lemmas.Result.{err_from_is_err_and}
use Rattle.tree_place.proofs.Asked.{leaves-asked, tree-bounded, first, stopped}
use Rattle.tree_place.proofs.Shape.leaves_questions.Goals as goal

pub returns-in_err-tree_questions : goal.returns-in_err-tree_questions
returns-in_err-tree_questions c =
    let p = err_from_is_err_and c.from_residual.result c.from_residual.ensures.1 in
    rw (p.1, p.2) (search (leaves-asked, stopped, c.in_err-tree_questions.ensures))

pub groups-requires : goal.groups-requires
groups-requires c = (tree-bounded _ _ _ c.in_ok-tree_questions.ensures).shape.filled

pub returns-then-not-ends_within : goal.returns-then-not-ends_within
returns-then-not-ends_within c =
    let said = rw c.groups.ensures at c.ends_within.ensures in
    search (leaves-asked, asks, first, c.in_ok-tree_questions.ensures, said) depth 14 fits 4000

pub overflow_mul-self : goal.overflow_mul-self
overflow_mul-self c = omega (arith, tree-bounded _ _ _ c.in_ok-tree_questions.ensures)

pub returns-then-values-self : goal.returns-then-values-self
returns-then-values-self c =
    let said = rw c.groups.ensures at c.ends_within.ensures in
    search (leaves-asked, asks, first, c.in_ok-tree_questions.ensures, said) depth 14 fits 4000

pub returns-then-out-ne0 : goal.returns-then-out-ne0
returns-then-out-ne0 c =
    let said = rw c.groups.ensures at c.ends_within.ensures in
    search (leaves-asked, asks, first, c.in_ok-tree_questions.ensures, said) depth 14 fits 4000

pub returns : goal.returns
returns c =
    let said = rw c.groups.ensures at c.ends_within.ensures in
    search (leaves-asked, asks, first, c.in_ok-tree_questions.ensures, said) depth 14 fits 4000
