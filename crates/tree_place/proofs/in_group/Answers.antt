-- `tree_place::in_group` meets its contract.
use native.Mathlib.Nat.{mod-lt}
use mathlib.Core.Path.{refl}
use Rattle.tree_place.proofs.in_group.Goals as goal

pub returns : goal.returns
returns c =
    (refl, mod-lt _ c.requires)
