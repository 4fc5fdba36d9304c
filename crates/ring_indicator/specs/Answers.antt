-- What `eval_at` answers, of row coefficients by value and of two points as they are lent. Rests on the indicator.
use Rattle.std.specs.Prelude.{ℕ, List}
use Rattle.theory_field.specs.Words.{words}
use Rattle.theory_multilinear.specs.Partials.{indicator}
use Rattle.field_gf128.specs.declared.Word.{Word}
use Rattle.field_pack.specs.Phi.{coefficients}

-- the indicator of the equality point z, at a point
abbrev pub indicator_of : List Word → List ℕ → List ℕ → ℕ
indicator_of rb z point = indicator (coefficients rb) (words z) (words point)
