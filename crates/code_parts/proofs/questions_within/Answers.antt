-- `code_parts::questions_within` meets its contract.
use native.Mathlib.Omega.{arith}
use Rattle.theory_laws.proofs.Questions.{asks}
use Rattle.code_parts.specs.helpers.Half.{number_within}
use Rattle.code_codeword.proofs.Lengths.{gammas_fit}
use Rattle.code_parts.proofs.questions_within.Goals as goal

pub returns-then-n-gt20 : goal.returns-then-n-gt20
unfolding number_within
returns-then-n-gt20 c = search asks depth 14 fits 4000

pub returns-then-k-gt4 : goal.returns-then-k-gt4
unfolding number_within
returns-then-k-gt4 c = search asks depth 14 fits 4000

pub returns-then-not-holds : goal.returns-then-not-holds
unfolding number_within
returns-then-not-holds c = search asks depth 14 fits 4000

pub overflow_mul-k : goal.overflow_mul-k
overflow_mul-k c =
    omega (arith, gammas_fit {n = c.args.n} {k = c.args.k} (omega arith) (omega arith))

pub overflow_mul-k-2 : goal.overflow_mul-k-2
overflow_mul-k-2 c =
    omega (arith, gammas_fit {n = c.args.n} {k = c.args.k} (omega arith) (omega arith))

pub returns-then-gammas-k : goal.returns-then-gammas-k
unfolding number_within
returns-then-gammas-k c = search asks depth 14 fits 4000

pub returns-then-not-holds-2 : goal.returns-then-not-holds-2
unfolding number_within
returns-then-not-holds-2 c = search asks depth 14 fits 4000

pub returns-then-not-is_block : goal.returns-then-not-is_block
unfolding number_within
returns-then-not-is_block c = search asks depth 14 fits 4000

pub returns : goal.returns
unfolding number_within
returns c = search asks depth 14 fits 4000
