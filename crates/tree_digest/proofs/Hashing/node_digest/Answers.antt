-- `Hashing::node_digest` meets its contract.
use Rattle.std.proofs.lemmas.Result.{err_from_is_err_and}
use Rattle.tree_place.proofs.Yes.{node_yes}
use Rattle.tree_digest.proofs.Answers.{refused-digest, done-digest, node_of_slices}
use native.Mathlib.Omega.{arith}
use Rattle.tree_digest.proofs.Hashing.node_digest.Goals as goal

pub returns-in_err-node_questions : goal.returns-in_err-node_questions
returns-in_err-node_questions c =
    let p = err_from_is_err_and c.from_residual.result c.from_residual.ensures.1 in
    rw (p.1, p.2) (refused-digest _ _ _ c.in_err-node_questions.ensures)

pub load-requires : goal.load-requires
load-requires c = omega (arith, node_yes _ _ _ c.in_ok-node_questions.ensures)

pub load-requires-2 : goal.load-requires-2
load-requires-2 c = omega (arith, node_yes _ _ _ c.in_ok-node_questions.ensures)

pub node_of-requires : goal.node_of-requires
node_of-requires c = let y = node_yes _ _ _ c.in_ok-node_questions.ensures in y.domain_le

pub returns : goal.returns
returns c =
    let y = node_yes _ _ _ c.in_ok-node_questions.ensures in
    done-digest _ _ _ c.in_ok-node_questions.ensures
    (node_of_slices _ _ _ _ _ _ _ _ y.left_is y.right_is c.load.ensures c.load-2.ensures c.node_of.ensures)
