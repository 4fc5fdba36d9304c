-- `field_pack::phi_half` meets its contract: what was added, and phi of the bits that are left, make the whole.
use mathlib.Core.Path.{◌≡◌}
use Prim.Native.Nat.{◌*◌, ◌^◌, ◌≤◌}
use Rattle.theory_laws.specs.Xor.{◌⊕◌}
use Rattle.field_gf128.specs.Word.{word}
use Rattle.theory_multilinear.specs.Phi.{phi}
use Rattle.field_pack.specs.Phi.{coefficients}
use Rattle.field_pack.proofs.phi_half.Given as goal

abbrev pub invariant-loop-left : goal.invariant-loop-left
invariant-loop-left l = (l.left ≤ l.half) × (word l.acc ⊕ phi (coefficients l.c) (l.left * 2 ^ l.from) ≡ phi (coefficients l.c) (l.half * 2 ^ l.from))

abbrev pub decreases-loop-left : goal.decreases-loop-left
decreases-loop-left l = l.left
