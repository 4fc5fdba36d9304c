-- `root_of_path` meets its contract: from the leaf of the place's group along the path.
use Prim.Native.Nat.{◌*◌}
use mathlib.Core.Path.{sym, ◌∙◌, ap}
use native.Mathlib.Omega.{arith}
use Rattle.std.proofs.lemmas.Result.{err_from_is_err_and}
use Rattle.tree_place.proofs.Yes.{root_yes}
use Rattle.tree_digest.proofs.Answers.{refused-digest, done-digest}
use Rattle.tree_path.proofs.Opened.{root_of_place}
use Rattle.tree_path.proofs.root_of_path.Goals as goal

pub returns-in_err-root_questions : goal.returns-in_err-root_questions
returns-in_err-root_questions c =
    let p = err_from_is_err_and c.from_residual.result c.from_residual.ensures.1 in
    rw (p.1, p.2) (refused-digest _ _ _ c.in_err-root_questions.ensures)

pub depth-requires : goal.depth-requires
depth-requires c = (root_yes _ _ _ _ _ _ c.in_ok-root_questions.ensures).shaped.shape.filled

pub group_of-g-requires : goal.group_of-g-requires
group_of-g-requires c = (root_yes _ _ _ _ _ _ c.in_ok-root_questions.ensures).shaped.shape.filled

pub leaf_of-leaf-requires : goal.leaf_of-leaf-requires
leaf_of-leaf-requires c =
    let y = root_yes _ _ _ _ _ _ c.in_ok-root_questions.ensures in
    (y.domain_le, y.shaped.width-le, y.values_is)

pub climb_path-requires : goal.climb_path-requires
climb_path-requires c =
    let y = root_yes _ _ _ _ _ _ c.in_ok-root_questions.ensures in
    (y.domain_le, omega (arith, y.path-is ∙ ap (λ i. 32 * i) (sym c.depth.ensures)))

pub returns : goal.returns
returns c =
    done-digest _ _ _ c.in_ok-root_questions.ensures
    (root_of_place _ _ _ _ _ _ _ _ _ _ _ c.group_of-g.ensures c.depth.ensures c.leaf_of-leaf.ensures c.climb_path.ensures)
