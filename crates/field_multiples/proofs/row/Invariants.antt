-- `tables::row` meets its contract. The loop's invariant: the products with the numbers of i bits stand there, and d is w times x^i.
use mathlib.Core.Path.{◌≡◌}
use mathlib.Core.List.{List}
use Prim.Native.Nat.{ℕ, ◌^◌}
use Rattle.theory_field.specs.Field.{◌⊗◌}
use Rattle.theory_field.specs.Words.{words}
use Rattle.field_gf128.specs.Word.{word}
use Rattle.field_multiples.specs.helpers.Rows.{Row}
use Rattle.field_multiples.proofs.row.Given as goal

abbrev pub invariant-loop-i : goal.invariant-loop-i
invariant-loop-i l =
    (l.n ≡ 2 ^ l._i) × (word l.d ≡ word l.initial.d ⊗ 2 ^ l._i)
    × ((ws : List ℕ) → Row 0 l.from (word l.initial.d) ws (words l.initial.t) → Row l._i l.from (word l.initial.d) ws (words l.t))
