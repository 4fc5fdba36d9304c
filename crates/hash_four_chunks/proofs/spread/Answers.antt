-- `hash_four_chunks::spread`: place by place.
use mathlib.Core.Path.{refl}
use Prim.Native.Nat.{ℕ, ◌/◌}
use native.Mathlib.Omega.{arith}
use lib.ListN.{length-set}
use Rattle.theory_laws.specs.Table.{at}
use Rattle.theory_laws.proofs.Updates.{fill_step}
use Rattle.hash_four_chunks.proofs.Laws.{spread_law}
use Rattle.hash_four_chunks.proofs.spread.Goals as goal

pub loop-j-init : goal.loop-j-init
loop-j-init c = (refl, λ i b. absurd (omega arith))

pub loop-j-preserved : goal.loop-j-preserved
loop-j-preserved c =
    let a = c.args in (simp length-set c.loop-j.invariant.0, fill_step (λ (i : ℕ). at a.h (i / 4)) c.loop-j.j c.loop-j.s _ (omega arith) refl c.loop-j.invariant.1)

pub returns : goal.returns
returns c =
    let a = c.args in λ k b. spread_law c.loop-j.s a.h k b (omega arith) (λ i q. c.loop-j.invariant.1 i (omega arith))
