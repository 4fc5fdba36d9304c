-- `Stack::root` meets its contract: the parents that are left give the root.
use mathlib.Core.Path.{◌≡◌}
use Prim.Native.Nat.{ℕ}
use Rattle.theory_blake3.specs.Stack as B
use Rattle.hash_node.specs.helpers.Node.{out_of}
use Rattle.hash_stack.proofs.Stack.root.Given as goal

abbrev pub invariant-loop-i : goal.invariant-loop-i
invariant-loop-i l =
    (x : ℕ) → B.fold l.mode.key l.mode.flags (B.entries l.self.values l.i) (out_of l.r) x
    ≡ B.fold l.mode.key l.mode.flags (B.entries l.self.values l.self.depth) (out_of l.initial.r) x
