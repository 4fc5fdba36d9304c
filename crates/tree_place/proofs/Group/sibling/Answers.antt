-- `Group::sibling` meets its contract.
use mathlib.Core.Path.{sym}
use Rattle.theory_merkle.proofs.Levels.{sibling-even, sibling-odd}
use Rattle.tree_place.proofs.Group.sibling.Goals as goal

pub returns-then-g-eq0 : goal.returns-then-g-eq0
returns-then-g-eq0 c = sym (sibling-even _ c.if-g-eq0.true)

pub returns : goal.returns
returns c = sym (sibling-odd _ c.if-g-eq0.false)
