-- A word of the code as a number, and a product of two words before it is reduced.
use Rattle.std.specs.Prelude.{ℕ, ◌+◌, ◌*◌, ◌^◌}
use Rattle.field_gf128.specs.declared.Word.{Word}
use Rattle.field_gf128.specs.declared.Wide.{Wide}
use Rattle.theory_field.specs.Words.{joined}

unfoldable pub word : Word → ℕ
word w = joined w.hi w.lo

unfoldable pub wide : Wide → ℕ
wide t = word t.hi * 2 ^ 128 + word t.lo
