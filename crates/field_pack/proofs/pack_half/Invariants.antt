-- `field_pack::pack_half` meets its contract: the bits so far are those of the bytes so far.
use Prim.Native.Nat.{◌+◌, ◌^◌}
use mathlib.Core.Path.{◌≡◌}
use Rattle.theory_laws.specs.Sum.{sum}
use Rattle.theory_laws.specs.Table.{at}
use Rattle.theory_laws.specs.Xor.{sel}
use Rattle.field_pack.proofs.pack_half.Given as goal

abbrev pub invariant-loop-b : goal.invariant-loop-b
invariant-loop-b l = l.half ≡ sum l.b (λ j. sel (at l.bytes (l.from + j)) (2 ^ j))
