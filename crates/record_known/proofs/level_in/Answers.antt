-- `record_known::level_in` meets its contract.
use native.Mathlib.Omega.{arith}
use Rattle.theory_laws.proofs.Questions.{asks}
use Rattle.record_known.specs.helpers.Domains.{level_in}
use Rattle.record_known.proofs.level_in.Goals as goal

pub returns-then-e-k : goal.returns-then-e-k
unfolding level_in
returns-then-e-k c = (search asks, omega arith)

pub returns : goal.returns
unfolding level_in
returns c = (search asks, omega arith)
