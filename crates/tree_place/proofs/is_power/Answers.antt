-- `is_power` meets its contract.
use Rattle.std.proofs.lemmas.Nat.{one_shl}
use mathlib.Core.Path.{◌∙◌}
use native.Mathlib.Omega.{arith}
use Rattle.tree_place.proofs.Loops.{power_found, power_none}
use Rattle.tree_place.proofs.is_power.Goals as goal

pub returns-then-x-k : goal.returns-then-x-k
returns-then-x-k c = power_found _ _ c.loop-k.k (omega arith) (c.if-x-k.true ∙ one_shl c.loop-k.k 64 (omega arith))

pub returns : goal.returns
returns c = power_none _ _ (λ j h. c.loop-k.invariant j (omega arith))
