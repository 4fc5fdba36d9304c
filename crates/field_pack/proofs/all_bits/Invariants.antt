-- `field_pack::all_bits` meets its contract: what is left of the bytes gives the answer.
use mathlib.Core.Path.{◌≡◌}
use lib.ListN.{drop}
use Rattle.field_pack.specs.Pack.{all_bits}
use Rattle.field_pack.proofs.all_bits.Given as goal

abbrev pub invariant-loop-i : goal.invariant-loop-i
invariant-loop-i l = all_bits (drop l.i l.bytes) ≡ all_bits l.bytes
