-- `put_number` meets its contract. The loop's invariant: storing the bytes that are left of the number fills the part.
use Prim.Native.Nat.{◌-◌}
use mathlib.Core.Path.{◌≡◌}
use Rattle.theory_laws.specs.Lists.{stored, le_bytes}
use Rattle.bytes_numbers.proofs.put_number.Given as goal

abbrev pub invariant-loop-b : goal.invariant-loop-b
invariant-loop-b l = stored l.b-items l.b-index (le_bytes (l.size - l.b-index) l.rest) ≡ le_bytes l.size l.x
