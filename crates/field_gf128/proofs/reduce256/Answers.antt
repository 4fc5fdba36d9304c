-- `field_gf128::reduce256` meets its contract.
use native.Mathlib.Omega.{arith}
use Rattle.theory_laws.specs.Xor.{◌⊕◌}
use Rattle.field_gf128.specs.Word.{word, wide}
use Rattle.field_gf128.proofs.Reduction.{kept, past, reduced}
use Rattle.field_gf128.proofs.reduce256.Goals as goal

pub returns : goal.returns
unfolding word wide kept past ◌⊕◌
returns c =
    let t = c.args.t in reduced t.lo.hi t.lo.lo t.hi.hi t.hi.lo (omega arith) (omega arith) (omega arith) (omega arith)
