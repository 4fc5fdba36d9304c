-- `field_pack::eq_coefficients` meets its contract: the array begins with the table of the coordinates so far.
use mathlib.Core.Path.{◌≡◌}
use Prim.Native.Nat.{◌^◌}
use lib.ListN.{length}
use Rattle.field_equality.proofs.Growing.{Begins}
use Rattle.field_pack.specs.Phi.{numbers}
use Rattle.field_pack.proofs.eq_coefficients.Given as goal

abbrev pub invariant-loop-z : goal.invariant-loop-z
invariant-loop-z l =
    (l.n ≡ 2 ^ l.z-index) × (length l.c ≡ 128) × Begins (numbers l.fn.r) l.z-index (numbers l.c)
