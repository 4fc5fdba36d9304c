-- `Stack::joined` meets its contract: what is left to join gives the value of all.
use mathlib.Core.Path.{◌≡◌}
use Prim.Native.Nat.{◌-◌, ◌≤◌}
use Rattle.theory_blake3.specs.Stack as B
use Rattle.hash_stack.proofs.Stack.joined.Given as goal

abbrev pub invariant-loop-i : goal.invariant-loop-i
invariant-loop-i l =
    (l.self.depth - l.count ≤ l.i) × (B.joined l.mode.key l.mode.flags (l.i - (l.self.depth - l.count)) l.self.values l.i l.u
    ≡ B.joined l.mode.key l.mode.flags l.count l.self.values l.self.depth l.initial.u)
