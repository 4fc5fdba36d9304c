-- `field_runs::first` meets its contract: twice q, less what stands below the bit.
use mathlib.Core.Path.{sym, ap, ◌∙◌}
use Prim.Native.Nat.{◌+◌, ◌-◌}
use native.Mathlib.Omega.{arith}
use lib.Bits.{bit_and, and_le_l, and_mask}
use Rattle.theory_laws.proofs.Places.{ins-first}
use Rattle.field_runs.proofs.first.Goals as goal

pub overflow_sub-result-2 : goal.overflow_sub-result-2
overflow_sub-result-2 c = omega (arith, and_le_l c.args.q (c.args.half - 1))

pub returns : goal.returns
returns c i e =
    let q = c.args.q in ap (λ h. q + q - bit_and q (h - 1)) e ∙ ap (λ x. q + q - x) (and_mask q i) ∙ sym (ins-first i q)
