use native.Mathlib.Omega.{arith}
use mathlib.Core.Path.{refl}
use Rattle.compare_pick.proofs.Chains.{node_room}
use borrow.Author.Rules.{rules}
use Rattle.compare_pick.proofs.node_at.Goals as goal

pub overflow_mul-result : goal.overflow_mul-result
overflow_mul-result c = let h = node_room c.args.node _ _ c.requires.0 in search rules

pub overflow_add-result : goal.overflow_add-result
overflow_add-result c = let h = node_room c.args.node _ _ c.requires.0 in search rules

pub returns : goal.returns
returns c = let h = node_room c.args.node _ _ c.requires.0 in (refl, omega arith)
