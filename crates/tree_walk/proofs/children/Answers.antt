-- `children` meets its contract, by the side on which the digest is.
use mathlib.Core.Path.{sym, ◌∙◌}
use Rattle.tree_walk.proofs.children.Goals as goal

pub returns-then-is_left : goal.returns-then-is_left
returns-then-is_left c = let e = sym c.is_left.ensures ∙ c.if-is_left.true in (rw e, rw e)

pub returns : goal.returns
returns c = let e = sym c.is_left.ensures ∙ c.if-is_left.false in (rw e, rw e)
