-- `node_questions` meets its contract.
use Rattle.theory_laws.proofs.Questions.{asks}
use Rattle.theory_merkle.specs.Numbers.{node_number}
use Rattle.tree_place.proofs.node_questions.Goals as goal
use Rattle.tree_place.proofs.node_questions.Goals.{then-left-ne32-via-then-left-ne32, then-left-ne32-via-else-left-ne32+then-right-ne32}

pub returns-then-left-ne32 : goal.returns-then-left-ne32
unfolding node_number
returns-then-left-ne32 c =
    elim c.then-left-ne32.branch [ then-left-ne32-via-then-left-ne32 w ↦ search asks | then-left-ne32-via-else-left-ne32+then-right-ne32 w ↦ search asks ]

pub returns-then-domain-gt255 : goal.returns-then-domain-gt255
unfolding node_number
returns-then-domain-gt255 c = search asks

pub returns : goal.returns
unfolding node_number
returns c = search asks
