-- `tables::entry` meets its contract: the row's place by a shift, and the window by a mask.
use mathlib.Core.Path.{◌≡◌, ap, ap₂, ◌∙◌}
use Prim.Native.Nat.{ℕ, ◌+◌, ◌-◌, ◌*◌, ◌%◌, ◌^◌, ◌<◌}
use native.Mathlib.Omega.{arith}
use lib.Bits.{bit_and}
use lib.Pow.{pow_pos}
use lib.ListN.{length}
use Rattle.theory_laws.specs.Table.{at}
use Rattle.theory_field.specs.Words.{words}
use Rattle.field_multiples.proofs.Products.{power_fits, row_place, masked, in_row}
use Rattle.field_multiples.proofs.entry.Goals as goal
use Rattle.field_multiples.proofs.entry.Goals.{Start}

-- the place that is computed, and that its word is in the table
module _ (c : Start) where
  abbrev b : ℕ
  b = c.args.b

  place : c.args.j * 2 ^ b % 2 ^ 64 + bit_and c.args.x (1 * 2 ^ b % 2 ^ 64 - 1) ≡ c.args.j * 2 ^ b + c.args.x % 2 ^ b
  place = ap₂ ◌+◌ (row_place b c.args.j (omega arith)) (masked b c.args.x c.requires.0)

  inside : 2 * (c.args.j * 2 ^ b + c.args.x % 2 ^ b) + 1 < length c.args.t.now
  inside = omega (arith, in_row b c.args.j c.args.x)

pub overflow_sub-b : goal.overflow_sub-b
overflow_sub-b c = omega (arith, power_fits c.args.b c.requires.0, pow_pos c.args.b)

pub overflow_add-j : goal.overflow_add-j
overflow_add-j c = omega (arith, place (goal.at.overflow_add-j c).Start, inside (goal.at.overflow_add-j c).Start)

pub get-requires : goal.get-requires
get-requires c = omega (arith, place (goal.at.get-requires c).Start, inside (goal.at.get-requires c).Start)

pub returns : goal.returns
returns c = c.get.ensures ∙ ap (at (words c.args.t.now)) (place (goal.at.returns c).Start)
