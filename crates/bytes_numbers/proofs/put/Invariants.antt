-- `put` meets its contract. The loop's invariant: storing the bytes that are left from here on gives the final buffer.
use Prim.Native.Nat.{◌+◌}
use mathlib.Core.Path.{◌≡◌}
use lib.ListN.{length, drop}
use Rattle.theory_laws.specs.Lists.{stored}
use Rattle.bytes_numbers.proofs.put.Given as goal

abbrev pub invariant-loop-i : goal.invariant-loop-i
invariant-loop-i l = (length l.out ≡ length l.initial.out) × (stored l.out (l.from + l.i) (drop l.i l.src) ≡ stored l.initial.out l.from l.src)
