-- `record_reader::query_whole` meets its contract. The loop's invariant: whether what is left reads whole decides.
use Rattle.theory_record.specs.Format.{level_form, whole_items, record_whole}
use lib.ListN.{length, drop}
use mathlib.Core.Path.{◌≡◌}
use Prim.Native.Nat.{◌-◌, ◌≤◌}
use Rattle.record_reader.proofs.query_whole.Given as goal

abbrev pub invariant-loop-l : goal.invariant-loop-l
invariant-loop-l l = (l.at ≤ length l.s) × (whole_items level_form (l.n - l._l) (drop l.at l.s) ≡ record_whole level_form l.s)
