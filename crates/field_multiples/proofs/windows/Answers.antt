-- `tables::windows` meets its contract: the product is additive, and a word is its halves.
use mathlib.Core.Path.{◌∙◌}
use Prim.Native.Nat.{◌^◌, ◌<◌}
use native.Mathlib.Omega.{arith}
use Rattle.theory_laws.proofs.Xor.{⊕_comm}
use Rattle.theory_field.specs.Words.{words}
use Rattle.field_gf128.specs.Word.{word}
use Rattle.field_multiples.proofs.Products.{fewer, halves}
use Rattle.field_multiples.proofs.windows.Goals as goal

pub returns : goal.returns
unfolding word
returns c r m =
    let a = c.args in let fits : a.w.lo < 2 ^ 64 = omega arith in
    c.add.ensures ∙ ⊕_comm (word c.half.result) (word c.half-2.result)
    ∙ halves a.b a.n r (word c.half-2.result) (word c.half.result) a.w.hi a.w.lo c.requires.1 fits
    (c.half-2.ensures r (fewer a.b a.n r (words a.t.now) m)) (c.half.ensures r m)
