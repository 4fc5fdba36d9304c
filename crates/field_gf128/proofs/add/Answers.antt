-- `field_gf128::add` meets its contract: the halves add by themselves.
use native.Mathlib.Omega.{arith}
use Rattle.field_gf128.specs.Word.{word}
use Rattle.field_gf128.proofs.Halves.{add-halves}
use Rattle.field_gf128.proofs.add.Goals as goal

pub returns : goal.returns
unfolding word
returns c =
    let a = c.args.a in let b = c.args.b in add-halves a.hi a.lo b.hi b.lo (omega arith) (omega arith)
