-- `Hashing::leaf_digest` meets its contract.
use Rattle.std.proofs.lemmas.Result.{err_from_is_err_and}
use Rattle.tree_place.proofs.Yes.{leaf_yes}
use Rattle.tree_digest.proofs.Answers.{refused-digest, done-digest, leaf_of_place}
use native.Mathlib.Omega.{arith}
use Rattle.tree_digest.proofs.Hashing.leaf_digest.Goals as goal

pub returns-in_err-leaf_questions : goal.returns-in_err-leaf_questions
returns-in_err-leaf_questions c =
    let p = err_from_is_err_and c.from_residual.result c.from_residual.ensures.1 in
    rw (p.1, p.2) (refused-digest _ _ _ c.in_err-leaf_questions.ensures)

pub group_of-requires : goal.group_of-requires
group_of-requires c = omega (arith, leaf_yes _ _ _ _ _ c.in_ok-leaf_questions.ensures)

pub leaf_of-requires : goal.leaf_of-requires
leaf_of-requires c =
    let y = leaf_yes _ _ _ _ _ c.in_ok-leaf_questions.ensures in
    (y.domain_le, y.shaped.width-le, y.values_is)

pub returns : goal.returns
returns c =
    done-digest _ _ _ c.in_ok-leaf_questions.ensures
    (leaf_of_place _ _ _ _ _ _ _ _ c.group_of.ensures c.leaf_of.ensures)
