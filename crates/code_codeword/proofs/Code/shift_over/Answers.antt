-- `code_codeword::Code::shift_over` meets its contract: the first i coordinates are stored.
use mathlib.Core.Path.{sym, ◌∙◌}
use native.Mathlib.Omega.{arith}
use Rattle.theory_field.proofs.Words.{filled_more, filled_all}
use Rattle.code_codeword.proofs.Lists.{over_entries}
use Rattle.code_codeword.proofs.Code.shift_over.Goals as goal

pub loop-i-init : goal.loop-i-init
loop-i-init c = (c.requires.1, λ v h. absurd (omega arith))

pub coordinate-d-requires : goal.coordinate-d-requires
coordinate-d-requires c =
    c.requires.0 _ c.loop-i-test.true

pub put-requires : goal.put-requires
put-requires c =
    omega (arith, c.loop-i.invariant.0, c.loop-i-test.true)

pub loop-i-preserved : goal.loop-i-preserved
loop-i-preserved c =
    let inv = c.loop-i.invariant in (
      c.put.auto.s ∙ inv.0,
      filled_more _ _ _ _ _ (omega (arith, inv.0, c.loop-i-test.true)) c.put.ensures c.coordinate-d.ensures inv.1,
    )

pub shape_of-out : goal.shape_of-out
shape_of-out c =
    c.loop-i.invariant.0 ∙ sym c.requires.1

pub returns : goal.returns
returns c =
    let inv = c.loop-i.invariant in over_entries _ _ _ _ _ (filled_all _ _ _ _ inv.0 c.loop-i-test.false inv.1)
