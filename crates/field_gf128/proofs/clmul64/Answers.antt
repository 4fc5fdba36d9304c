-- `field_gf128::clmul64` meets its contract: the product with the low 61 bits of a, and that with the three above them.
use mathlib.Core.Path.{ap, ap₂, ◌∙◌}
use Prim.Native.Nat.{ℕ}
use native.Mathlib.Omega.{arith}
use lib.Bits.{and_mask}
use Rattle.theory_laws.specs.Xor.{◌⊕◌}
use Rattle.theory_field.specs.LongProduct.{long}
use Rattle.field_gf128.proofs.Windows.{top_and_low}
use Rattle.field_gf128.proofs.clmul64.Goals as goal

pub clmul61-requires : goal.clmul61-requires
clmul61-requires c = omega (arith, and_mask c.args.a 61)

pub returns : goal.returns
returns c =
    let a = c.args in c.add.ensures
    ∙ ap₂ ◌⊕◌ (c.clmul61.ensures ∙ ap (λ (x : ℕ). long 64 x a.b) (and_mask a.a 61)) c.clmul_top.ensures
    ∙ top_and_low a.a a.b
