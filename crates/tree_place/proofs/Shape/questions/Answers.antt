-- `Shape::questions` meets its contract.
use Rattle.theory_laws.proofs.Questions.{asks}
use native.Mathlib.Omega.{arith}
use Rattle.theory_merkle.specs.Numbers.{shape_number}
use Rattle.tree_place.proofs.Asked.{power_some}
use mathlib.Core.Path.{ap}
use mathlib.Core.Bool.{not}
use Rattle.tree_place.proofs.Shape.questions.Goals as goal

pub returns-then-not-is_power : goal.returns-then-not-is_power
unfolding shape_number
returns-then-not-is_power c = search asks

pub returns-then-not-is_power-2 : goal.returns-then-not-is_power-2
unfolding shape_number
returns-then-not-is_power-2 c = search asks

pub nonzero_rem-self : goal.nonzero_rem-self
nonzero_rem-self c = omega (arith, power_some 9 _ _ c.is_power-2.ensures (ap not c.if-not-is_power-2.false))

pub returns-then-self-ne0 : goal.returns-then-self-ne0
unfolding shape_number
returns-then-self-ne0 c = search asks

pub returns : goal.returns
unfolding shape_number
returns c = search asks
