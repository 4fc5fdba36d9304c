-- `record_reader::tail_whole` meets its contract. The loop's invariant: whether what is left reads whole decides.
use Rattle.theory_record.specs.Format.{tail_form, whole_items, record_whole}
use lib.ListN.{length, drop}
use mathlib.Core.Path.{◌≡◌}
use Prim.Native.Nat.{◌-◌, ◌≤◌}
use Rattle.record_reader.proofs.tail_whole.Given as goal

abbrev pub invariant-loop-g : goal.invariant-loop-g
invariant-loop-g l = (l.at ≤ length l.s) × (whole_items tail_form (l.n - l._g) (drop l.at l.s) ≡ record_whole tail_form l.s)
