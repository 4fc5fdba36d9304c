-- `field_gf128::squares` meets its contract. The loop's invariant: w is the word squared i times.
use mathlib.Core.Path.{◌≡◌}
use Rattle.theory_field.specs.Field.{frob}
use Rattle.field_gf128.specs.Word.{word}
use Rattle.field_gf128.proofs.squares.Given as goal

abbrev pub invariant-loop-i : goal.invariant-loop-i
invariant-loop-i l = (word l.w ≡ frob l._i (word l.initial.w))
