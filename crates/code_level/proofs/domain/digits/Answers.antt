-- `code_level::domain::digits` meets its contract.
use Rattle.code_level.proofs.Domains.{one-digit-long, two-digits-long}
use Rattle.code_level.proofs.domain.digits.Goals as goal

pub returns-then-x-lt10 : goal.returns-then-x-lt10
returns-then-x-lt10 c = search one-digit-long

pub returns : goal.returns
returns c = search two-digits-long
