-- `field_gf128::mul` meets its contract: the product of words is the carry-less product, reduced.
use mathlib.Core.Path.{sym, ap, ◌∙◌}
use native.Mathlib.Omega.{arith}
use Rattle.theory_field.proofs.LongProduct.{red, ⊗-red}
use Rattle.field_gf128.specs.Word.{word}
use Rattle.field_gf128.proofs.Halves.{word_lt}
use Rattle.field_gf128.proofs.mul.Goals as goal

pub returns : goal.returns
returns c =
    let s = c.args in c.reduce256.ensures ∙ ap red c.clmul128.ensures
    ∙ sym (⊗-red (word s.a) (word s.b) (word_lt s.a (omega arith) (omega arith)) (word_lt s.b (omega arith) (omega arith)))
