-- `claim_run_parts::questions::Lengths::input_questions` meets its contract.
use Rattle.theory_laws.proofs.Questions.{asks}
use borrow.Author.Rules.{rules}
use Rattle.claim_run_parts.proofs.questions.Lengths.input_questions.Goals as goal

pub returns-then-not-holds : goal.returns-then-not-holds
returns-then-not-holds c = search asks depth 14 fits 4000

pub returns-then-self : goal.returns-then-self
returns-then-self c = search asks depth 14 fits 4000

pub returns-then-self-2 : goal.returns-then-self-2
returns-then-self-2 c = search asks depth 14 fits 4000

pub returns : goal.returns
returns c = search asks depth 14 fits 4000
