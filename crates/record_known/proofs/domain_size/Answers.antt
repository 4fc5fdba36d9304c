-- `record_known::domain_size` meets its contract.
use Rattle.theory_laws.proofs.Questions.{asks}
use Rattle.record_known.proofs.domain_size.Goals as goal

pub returns-then-e-lt10 : goal.returns-then-e-lt10
returns-then-e-lt10 c = search asks

pub returns : goal.returns
returns c = search asks
