-- `compare_records::records_questions` meets its contract.
use Rattle.compare_records.proofs.Records.{first-refused, second-refused, are_equal, are_not}
use Rattle.compare_records.proofs.records_questions.Goals as goal

pub returns-then-not-accepted : goal.returns-then-not-accepted
returns-then-not-accepted c = search first-refused

pub returns-then-not-accepted-2 : goal.returns-then-not-accepted-2
returns-then-not-accepted-2 c = search second-refused

pub returns-then-same_bytes : goal.returns-then-same_bytes
returns-then-same_bytes c = search are_equal

pub returns : goal.returns
returns c = search are_not
