-- `log2_of` meets its contract.
use Rattle.theory_merkle.proofs.Sizes.{log2_end}
use Rattle.tree_place.proofs.Loops.{log2-counted}
use native.Mathlib.Omega.{arith}
use mathlib.Core.Path.{sym}
use Rattle.tree_place.proofs.log2_of.Goals as goal

pub returns-then-x-eq0 : goal.returns-then-x-eq0
returns-then-x-eq0 c = rw c.if-x-eq0.true (sym (log2_end 0 (omega arith)))

pub returns : goal.returns
returns c = log2-counted c.args.x (omega arith) c.ranges.x.fits
