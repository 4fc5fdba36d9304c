-- `Stack::root` meets its contract.
use mathlib.Core.Path.{refl, ◌∙◌}
use native.Mathlib.Omega.{arith}
use Rattle.hash_node.specs.helpers.Node.{out_of}
use Rattle.hash_stack.proofs.Array.{fold-turn, fold_end}
use Rattle.hash_stack.proofs.Stack.root.Goals as goal

pub loop-i-init : goal.loop-i-init
loop-i-init c = λ x. refl

pub loop-i-preserved : goal.loop-i-preserved
loop-i-preserved c =
    λ x.
    fold-turn _ _ _ c.loop-i.i _ _ (out_of c.loop-i.r) (out_of c.parent-r.result) x (omega arith)
    c.entry.ensures c.value-v.ensures c.parent-r.ensures ∙ c.loop-i.invariant x

pub returns : goal.returns
returns c = λ x. fold_end _ _ _ c.loop-i.i (out_of c.loop-i.r) x (omega arith) ∙ c.loop-i.invariant x
