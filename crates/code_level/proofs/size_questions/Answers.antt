use Rattle.code_level.specs.Sizes.{size_number}
use Rattle.theory_laws.proofs.Questions.{asks}
use Rattle.code_level.proofs.size_questions.Goals as goal

pub returns-then-n-gt20 : goal.returns-then-n-gt20
unfolding size_number
returns-then-n-gt20 c = search asks

pub returns-then-k-gt4 : goal.returns-then-k-gt4
unfolding size_number
returns-then-k-gt4 c = search asks

pub returns-then-n-lt1 : goal.returns-then-n-lt1
unfolding size_number
returns-then-n-lt1 c = search asks

pub returns : goal.returns
unfolding size_number
returns c = search asks
