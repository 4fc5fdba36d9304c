-- `code_parts::fold_part_questions` meets its contract.
use Rattle.theory_laws.proofs.Questions.{asks}
use Rattle.theory_code.specs.PartQuestions.{fold_part_number}
use Rattle.code_parts.proofs.fold_part_questions.Goals as goal

pub returns-then-n-gt20 : goal.returns-then-n-gt20
unfolding fold_part_number
returns-then-n-gt20 c = search asks depth 14 fits 4000

pub returns-then-k-gt4 : goal.returns-then-k-gt4
unfolding fold_part_number
returns-then-k-gt4 c = search asks depth 14 fits 4000

pub returns-then-not-holds : goal.returns-then-not-holds
unfolding fold_part_number
returns-then-not-holds c = search asks depth 14 fits 4000

pub returns-then-out-ne0 : goal.returns-then-out-ne0
unfolding fold_part_number
returns-then-out-ne0 c = search asks depth 14 fits 4000

pub returns-then-var-n : goal.returns-then-var-n
unfolding fold_part_number
returns-then-var-n c = search asks depth 14 fits 4000

pub returns-then-not-is_part : goal.returns-then-not-is_part
unfolding fold_part_number
returns-then-not-is_part c = search asks depth 14 fits 4000

pub returns : goal.returns
unfolding fold_part_number
returns c = search asks depth 14 fits 4000
