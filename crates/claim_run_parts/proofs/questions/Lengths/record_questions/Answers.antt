-- `claim_run_parts::questions::Lengths::record_questions` meets its contract.
use Rattle.theory_laws.proofs.Questions.{asks, asks-given}
use Rattle.claim_run_parts.proofs.questions.Lengths.record_questions.Goals as goal

pub query_size-requires : goal.query_size-requires
query_size-requires c = c.requires

pub returns-then-self-query_size : goal.returns-then-self-query_size
returns-then-self-query_size c = search (asks, asks-given) depth 16 fits 8000

pub tail_size-requires : goal.tail_size-requires
tail_size-requires c = c.requires

pub returns-then-self-tail_size : goal.returns-then-self-tail_size
returns-then-self-tail_size c = search (asks, asks-given) depth 16 fits 8000

pub returns-then-self-ne-MESSAGE_BUFFER : goal.returns-then-self-ne-MESSAGE_BUFFER
returns-then-self-ne-MESSAGE_BUFFER c = search (asks, asks-given) depth 16 fits 8000

pub returns-then-self-ne-MESSAGE_BUFFER-2 : goal.returns-then-self-ne-MESSAGE_BUFFER-2
returns-then-self-ne-MESSAGE_BUFFER-2 c = search (asks, asks-given) depth 16 fits 8000

pub returns : goal.returns
returns c = search (asks, asks-given) depth 16 fits 8000
