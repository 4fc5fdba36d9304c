-- `field_pack::phi_c` meets its contract: the halves make the word.
use mathlib.Core.Path.{ap₂, ◌∙◌}
use native.Mathlib.Omega.{arith}
use Rattle.theory_laws.specs.Xor.{◌⊕◌}
use Rattle.field_gf128.specs.Word.{word}
use Rattle.field_pack.specs.Phi.{coefficients}
use Rattle.field_pack.proofs.SetBits.{phi-halves}
use Rattle.field_pack.proofs.phi_c.Goals as goal

pub returns : goal.returns
unfolding word
returns c =
    let a = c.args in
    c.add.ensures ∙ ap₂ ◌⊕◌ c.phi_half.ensures c.phi_half-2.ensures ∙ phi-halves (coefficients a.c) a.w.hi a.w.lo (omega arith)
