-- `export_spread_table::entry` meets its contract. The loop's invariant: e is the i low bits of v spread apart.
use mathlib.Core.Path.{◌≡◌}
use Rattle.theory_field.specs.Spread.{spread}
use Rattle.export_spread_table.proofs.entry.Given as goal

abbrev pub invariant-loop-i : goal.invariant-loop-i
invariant-loop-i l = l.e ≡ spread l.i l.v
