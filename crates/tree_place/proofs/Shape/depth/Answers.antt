-- `Shape::depth` meets its contract.
use borrow.Author.Rules.{rules}
use Rattle.theory_merkle.specs.Tree.{depth_of}
use Rattle.tree_place.proofs.Shape.depth.Goals as goal

pub returns : goal.returns
unfolding depth_of
returns c = search rules
