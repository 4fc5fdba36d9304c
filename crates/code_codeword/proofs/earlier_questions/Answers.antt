-- `code_codeword::earlier_questions` meets its contract.
use Rattle.theory_laws.proofs.Questions.{asks}
use Rattle.theory_code.specs.Questions.{earlier_number}
use Rattle.code_codeword.proofs.earlier_questions.Goals as goal

pub returns-then-n-gt20 : goal.returns-then-n-gt20
unfolding earlier_number
returns-then-n-gt20 c = search asks depth 18 fits 6000

pub returns-then-k-gt4 : goal.returns-then-k-gt4
unfolding earlier_number
returns-then-k-gt4 c = search asks depth 18 fits 6000

pub returns-then-original-gt20 : goal.returns-then-original-gt20
unfolding earlier_number
returns-then-original-gt20 c = search asks depth 18 fits 6000

pub returns-then-not-are_unfolded : goal.returns-then-not-are_unfolded
unfolding earlier_number
returns-then-not-are_unfolded c = search asks depth 18 fits 6000

pub returns : goal.returns
unfolding earlier_number
returns c = search asks depth 18 fits 6000
