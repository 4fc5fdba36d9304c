-- `field_gf128::table::Table::spread8` meets its contract: the entry of the lowest byte.
use mathlib.Core.Path.{◌≡◌, ap, ◌∙◌}
use mathlib.Core.List.{List}
use Prim.Native.Nat.{ℕ, ◌%◌, ◌^◌}
use native.Mathlib.Nat.{mod-lt}
use lib.Pow.{pow_pos}
use Rattle.theory_laws.specs.Table.{at}
use Rattle.theory_laws.proofs.Table.{at-tab}
use Rattle.theory_field.specs.Spread.{spread, spread_table}
use Rattle.theory_field.proofs.Spread.{spread-low}
use Rattle.field_gf128.proofs.table.Table.spread8.Goals as goal

-- entry x % 256 of the table
entry : (x : ℕ) → at spread_table (x % 2 ^ 8) ≡ spread 8 x
unfolding spread_table
entry x = at-tab 256 (spread 8) (x % 2 ^ 8) (mod-lt x (pow_pos 8)) ∙ spread-low 8 x

pub returns : goal.returns
returns c =
    c.from.ensures ∙ ap (λ (t : List ℕ). at t (c.args.x % 2 ^ 8)) c.args.self.now.is ∙ entry c.args.x
