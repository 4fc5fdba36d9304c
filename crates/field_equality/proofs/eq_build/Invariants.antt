-- `field_equality::eq_build` meets its contract: the buffer begins with the table of the coordinates so far.
use mathlib.Core.Path.{◌≡◌}
use Prim.Native.Nat.{◌^◌}
use lib.ListN.{length}
use Rattle.theory_field.specs.Words.{words}
use Rattle.field_equality.proofs.Growing.{Begins}
use Rattle.field_equality.proofs.eq_build.Given as goal

abbrev pub invariant-loop-i : goal.invariant-loop-i
invariant-loop-i l =
    (l.len ≡ 2 ^ l.i) × (length l.out ≡ length l.initial.out) × (length l.multiples ≡ length l.initial.multiples) × Begins (words l.point) l.i (words l.out)
