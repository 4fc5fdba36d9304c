-- `code_codeword::Code::coordinate` meets its contract: below bit j, the sum is that of the first j rows of the gammas.
use mathlib.Core.Path.{◌≡◌}
use Rattle.theory_field.specs.Words.{words}
use Rattle.field_gf128.specs.Word.{word}
use Rattle.theory_multilinear.specs.Codeword.{shift_at}
use Rattle.code_codeword.proofs.Code.coordinate.Given as goal

abbrev pub invariant-loop-j : goal.invariant-loop-j
invariant-loop-j l = word l.d ≡ shift_at l.self.n l.j (words l.self.gammas.now) l.eps l.i
