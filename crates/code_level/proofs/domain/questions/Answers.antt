-- `code_level::domain::questions` meets its contract.
use Rattle.theory_laws.proofs.Questions.{asks}
use Rattle.code_level.specs.Domain.{domain_number}
use Rattle.code_level.proofs.domain.questions.Goals as goal

pub returns-then-l-gt20 : goal.returns-then-l-gt20
unfolding domain_number
returns-then-l-gt20 c = search asks depth 14 fits 4000

pub returns-then-not-holds_domain : goal.returns-then-not-holds_domain
unfolding domain_number
returns-then-not-holds_domain c = search asks depth 14 fits 4000

pub returns-then-base-gt200 : goal.returns-then-base-gt200
unfolding domain_number
returns-then-base-gt200 c = search asks depth 14 fits 4000

pub returns : goal.returns
unfolding domain_number
returns c = search asks depth 14 fits 4000
