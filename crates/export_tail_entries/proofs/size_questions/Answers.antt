-- `export_tail_entries::size_questions` meets its contract.
use Rattle.theory_laws.proofs.Questions.{asks}
use Rattle.export_tail_entries.specs.Tail.{size_number}
use Rattle.export_tail_entries.proofs.size_questions.Goals as goal

pub returns-then-n-gt20 : goal.returns-then-n-gt20
unfolding size_number
returns-then-n-gt20 c = search asks depth 14 fits 4000

pub returns-then-k-gt4 : goal.returns-then-k-gt4
unfolding size_number
returns-then-k-gt4 c = search asks depth 14 fits 4000

pub returns-then-n-k-gt8 : goal.returns-then-n-k-gt8
unfolding size_number
returns-then-n-k-gt8 c = search asks depth 14 fits 4000

pub returns-then-not-is_whole : goal.returns-then-not-is_whole
unfolding size_number
returns-then-not-is_whole c = search asks depth 14 fits 4000

pub returns : goal.returns
unfolding size_number
returns c = search asks depth 14 fits 4000
