-- `code_codeword::fold_questions` meets its contract.
use Rattle.theory_laws.proofs.Questions.{asks}
use Rattle.theory_code.specs.Questions.{fold_number}
use Rattle.code_codeword.proofs.fold_questions.Goals as goal

pub returns-then-n-gt20 : goal.returns-then-n-gt20
unfolding fold_number
returns-then-n-gt20 c = search asks depth 18 fits 6000

pub returns-then-k-gt4 : goal.returns-then-k-gt4
unfolding fold_number
returns-then-k-gt4 c = search asks depth 18 fits 6000

pub returns-then-original-gt20 : goal.returns-then-original-gt20
unfolding fold_number
returns-then-original-gt20 c = search asks depth 18 fits 6000

pub returns-then-not-holds : goal.returns-then-not-holds
unfolding fold_number
returns-then-not-holds c = search asks depth 18 fits 6000

pub returns-then-not-holds_half : goal.returns-then-not-holds_half
unfolding fold_number
returns-then-not-holds_half c = search asks depth 18 fits 6000

pub returns-then-not-are_unfolded : goal.returns-then-not-are_unfolded
unfolding fold_number
returns-then-not-are_unfolded c = search asks depth 18 fits 6000

pub returns-then-var-n : goal.returns-then-var-n
unfolding fold_number
returns-then-var-n c = search asks depth 18 fits 6000

pub returns : goal.returns
unfolding fold_number
returns c = search asks depth 18 fits 6000
