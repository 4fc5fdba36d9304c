-- `record_opening::same_items` meets its contract. The loop's invariant: the items so far are the same.
use Prim.Native.Nat.{◌*◌}
use mathlib.Core.Path.{◌≡◌}
use Rattle.theory_laws.specs.Lists.{part}
use Rattle.record_opening.proofs.same_items.Given as goal

abbrev pub invariant-loop-t : goal.invariant-loop-t
invariant-loop-t l = part (32 * l.t) l.i l.s ≡ part (32 * l.t) l.j l.s
