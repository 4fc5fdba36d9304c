-- `Stack::joined` meets its contract.
use mathlib.Core.Path.{◌≡◌}
use Prim.Native.Nat.{◌-◌}
use native.Mathlib.Omega.{arith}
use Rattle.hash_stack.proofs.Array.{joined-turn, joined_end}
use Rattle.hash_stack.proofs.Stack.joined.Goals as goal

pub loop-i-init : goal.loop-i-init
loop-i-init c =
    let s = c.args.self.now in
    let e : s.depth - (s.depth - c.args.count) ≡ c.args.count = omega arith in
    (omega arith, rw e)

pub loop-i-preserved : goal.loop-i-preserved
loop-i-preserved c =
    let low = c.args.self.now.depth - c.args.count in
    let e : c.loop-i.i - low - 1 ≡ c.loop-i.i - 1 - low = omega arith in (
      omega arith,
      rw e at
          (joined-turn _ _ (c.loop-i.i - low) c.loop-i.i _ _ _ _ _ _ (omega arith) c.entry.ensures (c.parent-p.ensures 0) c.value-u.ensures
          c.loop-i.invariant.1),
    )

pub returns : goal.returns
returns c =
    joined_end _ _ (c.loop-i.i - (c.args.self.now.depth - c.args.count)) c.loop-i.i _ _ _ (omega arith) c.loop-i.invariant.1
