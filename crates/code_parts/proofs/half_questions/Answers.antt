-- `code_parts::half_questions` meets its contract.
use native.Mathlib.Omega.{arith}
use Rattle.code_parts.proofs.Lengths.{half-said, no_half}
use Rattle.code_parts.proofs.half_questions.Goals as goal

pub returns-then-n-lt1 : goal.returns-then-n-lt1
returns-then-n-lt1 c =
    let a = c.args in no_half a.n a.k a.half a.table a.gammas a.out (omega arith)

pub returns : goal.returns
returns c =
    let a = c.args in half-said a.n a.k a.half a.table a.gammas a.out _ (omega arith) c.questions_within.ensures
