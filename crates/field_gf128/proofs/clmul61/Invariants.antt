-- `field_gf128::clmul61` meets its contract. The loop's invariant: p is the product with the windows of b that are passed.
use mathlib.Core.Path.{◌≡◌}
use Prim.Native.Nat.{◌-◌, ◌*◌, ◌/◌, ◌^◌}
use Rattle.theory_field.specs.LongProduct.{long}
use Rattle.field_gf128.specs.Word.{word}
use Rattle.field_gf128.proofs.clmul61.Given as goal

abbrev pub invariant-loop-j : goal.invariant-loop-j
invariant-loop-j l = (word l.p ≡ long (4 * l.j) l.a (l.b / 2 ^ (64 - 4 * l.j)))
