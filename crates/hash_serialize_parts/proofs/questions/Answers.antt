-- `questions` meets its contract.
use Rattle.theory_laws.proofs.Questions.{asks}
use Rattle.hash_serialize_parts.specs.Parts as S
use Rattle.hash_serialize_parts.proofs.questions.Goals as goal

pub returns-then-not-sum_is : goal.returns-then-not-sum_is
unfolding S.number_of
returns-then-not-sum_is c = search asks depth 14 fits 4000

pub returns-then-not-size_is : goal.returns-then-not-size_is
unfolding S.number_of
returns-then-not-size_is c = search asks depth 14 fits 4000

pub returns : goal.returns
unfolding S.number_of
returns c = search asks depth 14 fits 4000
