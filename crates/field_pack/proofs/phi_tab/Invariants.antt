-- `field_pack::phi_tab` meets its contract: the entries so far are phi of what they stand for.
use mathlib.Core.Path.{◌≡◌}
use Prim.Native.Nat.{◌*◌, ◌/◌, ◌%◌, ◌^◌}
use lib.ListN.{length}
use Rattle.theory_multilinear.specs.Phi.{phi}
use Rattle.field_pack.specs.Phi.{coefficients}
use Rattle.theory_field.proofs.Words.{Filled}
use Rattle.field_pack.proofs.phi_tab.Given as goal

abbrev pub invariant-loop-k : goal.invariant-loop-k
invariant-loop-k l =
    (length l.c ≡ 128) × (length l.t ≡ 1024) × Filled (λ e. phi (coefficients l.c) (e % 16 * 2 ^ (4 * (e / 16)))) l.k l.t
