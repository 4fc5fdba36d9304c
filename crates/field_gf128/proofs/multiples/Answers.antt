-- `field_gf128::multiples` meets its contract: no shift loses a bit.
use native.Mathlib.Omega.{arith}
use Rattle.theory_laws.specs.Xor.{◌⊕◌}
use Rattle.field_gf128.proofs.Windows.{sixteen}
use Rattle.field_gf128.proofs.multiples.Goals as goal

pub returns : goal.returns
unfolding ◌⊕◌
returns c = sixteen c.args.a _ _ _ (omega arith) (omega arith) (omega arith)
