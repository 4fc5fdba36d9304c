-- `code_codeword::encode_questions` meets its contract.
use native.Mathlib.Omega.{arith}
use Rattle.theory_laws.proofs.Questions.{asks}
use Rattle.code_codeword.proofs.Lengths.{gammas_fit}
use Rattle.theory_code.specs.Questions.{encode_number}
use Rattle.code_codeword.proofs.encode_questions.Goals as goal

pub returns-then-n-gt20 : goal.returns-then-n-gt20
unfolding encode_number
returns-then-n-gt20 c = search asks depth 14 fits 4000

pub returns-then-k-gt4 : goal.returns-then-k-gt4
unfolding encode_number
returns-then-k-gt4 c = search asks depth 14 fits 4000

pub returns-then-not-holds : goal.returns-then-not-holds
unfolding encode_number
returns-then-not-holds c = search asks depth 14 fits 4000

pub overflow_mul-k : goal.overflow_mul-k
overflow_mul-k c = omega (
  arith,
  gammas_fit {n = c.args.n} {k = c.args.k} (omega arith)
      (omega arith),
)

pub overflow_mul-k-2 : goal.overflow_mul-k-2
overflow_mul-k-2 c = omega (
  arith,
  gammas_fit {n = c.args.n} {k = c.args.k} (omega arith)
      (omega arith),
)

pub returns-then-gammas-k : goal.returns-then-gammas-k
unfolding encode_number
returns-then-gammas-k c = search asks depth 14 fits 4000

pub returns-then-not-holds-2 : goal.returns-then-not-holds-2
unfolding encode_number
returns-then-not-holds-2 c = search asks depth 14 fits 4000

pub returns : goal.returns
unfolding encode_number
returns c = search asks depth 14 fits 4000
