-- `field_gf128::table::Table::new` makes a table: its rule is a test that is computed over all 256 entries.
use mathlib.Core.Path.{refl}
use Rattle.theory_field.proofs.Spread.{spread_test, tested_table}
use Rattle.field_gf128.proofs.table.Table.new.Goals as goal

pub invariant_of-result : goal.invariant_of-result
unfolding spread_test
invariant_of-result c = record { is = tested_table _ refl tt }
