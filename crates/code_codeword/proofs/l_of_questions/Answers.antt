-- `code_codeword::l_of_questions` meets its contract.
use native.Mathlib.Omega.{arith}
use Rattle.theory_laws.proofs.Questions.{asks}
use Rattle.theory_code.specs.Questions.{shift_number}
use Rattle.code_codeword.proofs.Lengths.{gammas_fit}
use Rattle.code_codeword.proofs.l_of_questions.Goals as goal

pub returns-then-n-gt20 : goal.returns-then-n-gt20
unfolding shift_number
returns-then-n-gt20 c = search asks depth 18 fits 6000

pub returns-then-k-gt4 : goal.returns-then-k-gt4
unfolding shift_number
returns-then-k-gt4 c = search asks depth 18 fits 6000

pub returns-then-original-gt20 : goal.returns-then-original-gt20
unfolding shift_number
returns-then-original-gt20 c = search asks depth 18 fits 6000

pub overflow_mul-k : goal.overflow_mul-k
overflow_mul-k c =
    omega (arith, gammas_fit {n = c.args.original} {k = c.args.k} (omega arith) (omega arith))

pub overflow_mul-k-2 : goal.overflow_mul-k-2
overflow_mul-k-2 c =
    omega (arith, gammas_fit {n = c.args.original} {k = c.args.k} (omega arith) (omega arith))

pub returns-then-gammas-k : goal.returns-then-gammas-k
unfolding shift_number
returns-then-gammas-k c = search asks depth 18 fits 6000

pub returns-then-out-n : goal.returns-then-out-n
unfolding shift_number
returns-then-out-n c = search asks depth 18 fits 6000

pub returns-then-not-are_unfolded : goal.returns-then-not-are_unfolded
unfolding shift_number
returns-then-not-are_unfolded c = search asks depth 18 fits 6000

pub returns : goal.returns
unfolding shift_number
returns c = search asks depth 18 fits 6000
