-- `ring_indicator::empty_eval` meets its contract: phi of 1 is rb[0], and so is the indicator.
use mathlib.Core.Path.{◌≡◌, sym, ◌∙◌}
use Prim.Native.Nat.{◌^◌, ◌<◌}
use native.Mathlib.Omega.{arith}
use Rattle.theory_field.specs.Words.{words}
use Rattle.field_gf128.specs.Word.{word}
use Rattle.field_gf128.proofs.Halves.{joined-lt}
use Rattle.theory_multilinear.proofs.Phi.{phi-one}
use Rattle.theory_multilinear.proofs.Tensor.{indicator-nil}
use Rattle.field_pack.specs.Phi.{coefficients}
use Rattle.ring_indicator.proofs.empty_eval.Goals as goal
use Rattle.ring_indicator.proofs.empty_eval.Goals.{After-phi_c}

halves : (c : After-phi_c) → (c.phi_c.result.hi < 2 ^ 64) × (c.phi_c.result.lo < 2 ^ 64)
halves c = (omega arith, omega arith)

pub returns : goal.returns
unfolding word words
returns c =
    let rb = coefficients c.args.rb in
    let w = c.phi_c.result in let first : word w ≡ rb 0 = c.phi_c.ensures ∙ phi-one rb in
    let below : word w < 2 ^ 128 = joined-lt w.hi w.lo (halves c).0 (halves c).1 in
    first ∙ sym (indicator-nil rb (rw first at below))
