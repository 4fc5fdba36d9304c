-- `tables::fill` meets its contract. The loop's invariant: the first j rows stand there, and d is r times x^(b × j), while that is a word.
use mathlib.Core.Path.{◌≡◌}
use Prim.Native.Nat.{◌*◌, ◌^◌, ◌<◌}
use Rattle.theory_field.specs.Field.{◌⊗◌}
use Rattle.theory_field.specs.Words.{words}
use Rattle.field_gf128.specs.Word.{word}
use Rattle.field_multiples.specs.helpers.Multiples.{Multiples}
use Rattle.field_multiples.proofs.fill.Given as goal

abbrev pub invariant-loop-j : goal.invariant-loop-j
invariant-loop-j l =
    (l.b * l.j < 128 → word l.d ≡ word l.initial.d ⊗ 2 ^ (l.b * l.j)) × Multiples l.b (l.j * 2 ^ l.b) (word l.initial.d) (words l.t)
