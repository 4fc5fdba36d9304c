-- `parents_questions` meets its contract.
use Rattle.theory_laws.proofs.Questions.{asks}
use Rattle.theory_merkle.specs.PartQuestions.{parents_number}
use Rattle.tree_place.proofs.parents_questions.Goals as goal
use Rattle.tree_place.proofs.parents_questions.Goals.{then-children-ne0-via-then-children-ne0, then-children-ne0-via-else-children-ne0+then-out-children}

pub returns-then-children-ne0 : goal.returns-then-children-ne0
unfolding parents_number
returns-then-children-ne0 c =
    elim c.then-children-ne0.branch [ then-children-ne0-via-then-children-ne0 w ↦ search asks | then-children-ne0-via-else-children-ne0+then-out-children w ↦ search asks ]

pub returns-then-domain-gt255 : goal.returns-then-domain-gt255
unfolding parents_number
returns-then-domain-gt255 c = search asks

pub returns : goal.returns
unfolding parents_number
returns c = search asks
