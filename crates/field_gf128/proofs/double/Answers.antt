-- `field_gf128::double` meets its contract: shifted across the halves, and reduced in the low one.
use mathlib.Core.Path.{refl}
use native.Mathlib.Omega.{arith}
use Rattle.theory_field.specs.Field.{reduction}
use Rattle.field_gf128.specs.Word.{word}
use Rattle.field_gf128.proofs.Halves.{double-halves}
use Rattle.field_gf128.proofs.double.Goals as goal

pub returns : goal.returns
unfolding word reduction
returns c =
    let a = c.args.a in double-halves _ a.hi a.lo refl (omega arith) (omega arith)
