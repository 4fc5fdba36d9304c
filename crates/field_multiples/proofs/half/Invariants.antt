-- `tables::half` meets its contract. The loop's invariant: what is left of h, moved to its place, times r, and the sum so far give
-- the product.
use mathlib.Core.Path.{◌≡◌}
use Prim.Native.Nat.{ℕ, ◌+◌, ◌*◌, ◌/◌, ◌^◌}
use Rattle.theory_laws.specs.Xor.{◌⊕◌}
use Rattle.theory_field.specs.Field.{◌⊗◌}
use Rattle.theory_field.specs.Words.{words}
use Rattle.field_gf128.specs.Word.{word}
use Rattle.field_multiples.specs.helpers.Multiples.{Multiples}
use Rattle.field_multiples.proofs.half.Given as goal

abbrev pub invariant-loop-i : goal.invariant-loop-i
invariant-loop-i l =
    (l.x ≡ l.h / 2 ^ (l.b * l.i))
    × ((r : ℕ) → Multiples l.b ((l.j + l.n) * 2 ^ l.b) r (words l.t) → word l.p ⊕ r ⊗ (l.x * 2 ^ (l.b * (l.j + l.i))) ≡ r ⊗ (l.h * 2 ^ (l.b * l.j)))
