-- `group_values` meets its contract. The loop's invariant: the first i words are read.
use Prim.Native.Nat.{◌+◌, ◌*◌}
use mathlib.Core.Path.{◌≡◌}
use lib.ListN.{length}
use Rattle.theory_laws.specs.Lists.{part, le_value}
use Rattle.theory_field.proofs.Words.{Filled}
use Rattle.theory_record.specs.Widths.{widest}
use Rattle.record_opening.proofs.group_values.Given as goal

abbrev pub invariant-loop-i : goal.invariant-loop-i
invariant-loop-i l = (length l.values ≡ 2 * widest) × Filled (λ j. le_value (part 16 (l.from + 16 * j) l.s)) l.i l.values
