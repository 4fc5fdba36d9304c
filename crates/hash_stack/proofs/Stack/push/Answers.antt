-- `Stack::push` meets its contract.
use mathlib.Core.Path.{refl, ap, ◌∙◌}
use Prim.Native.Nat.{◌*◌, ◌-◌}
use native.Mathlib.Omega.{arith}
use Rattle.theory_laws.specs.Lists.{stored}
use Rattle.theory_blake3.specs.Stack as B
use Rattle.hash_stack.proofs.Array.{entry_put}
use Rattle.hash_stack.proofs.Stack.push.Goals as goal

pub returns-clause-depth : goal.returns-clause-depth
unfolding B.pushed_depth
returns-clause-depth c = refl

pub returns-clause-values : goal.returns-clause-values
unfolding B.pushed
returns-clause-values c =
    let s = c.args.self.now in
    let i = s.depth - c.args.count in
    entry_put s.values c.joined-u.result _ i (omega arith) c.copy_from_slice.ensures.len c.copy_from_slice.ensures.after
    ∙ ap (stored s.values (8 * i)) c.joined-u.ensures
