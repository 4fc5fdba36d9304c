-- `Shape::tree_questions` meets its contract.
use Rattle.theory_laws.proofs.Questions.{asks}
use Rattle.theory_merkle.specs.Numbers.{shape_number, tree_number}
use Rattle.tree_place.proofs.Shape.tree_questions.Goals as goal

pub returns-then-domain-gt255 : goal.returns-then-domain-gt255
unfolding shape_number tree_number
returns-then-domain-gt255 c = search asks

pub returns : goal.returns
unfolding shape_number tree_number
returns c = search asks
