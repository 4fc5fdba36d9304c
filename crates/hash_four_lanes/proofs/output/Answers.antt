-- `hash_four_lanes::output`: word by word, the two halves of the state.
use mathlib.Core.Path.{refl}
use Prim.Native.Nat.{ℕ, ◌+◌}
use native.Mathlib.Omega.{arith}
use lib.ListN.{length-set}
use Rattle.theory_laws.specs.Table.{at}
use Rattle.theory_laws.proofs.Updates.{fill_step}
use Rattle.theory_laws.specs.Xor.{◌⊕◌}
use Rattle.hash_four_lanes.proofs.Laws.{value_law}
use Rattle.hash_four_lanes.proofs.output.Goals as goal

pub loop-j-init : goal.loop-j-init
loop-j-init c = (refl, λ k h. absurd (omega arith))

pub loop-j-preserved : goal.loop-j-preserved
unfolding ◌⊕◌
loop-j-preserved c =
    let a = c.args in (
      simp length-set c.loop-j.invariant.0,
      fill_step (λ (k : ℕ). at a.s.now k ⊕ at a.s.now (k + 32)) c.loop-j.j c.loop-j.h _ (omega arith) refl
          c.loop-j.invariant.1,
    )

pub returns : goal.returns
returns c =
    let a = c.args in λ k b. value_law c.loop-j.h a.s.now k b (λ i q. c.loop-j.invariant.1 i (omega arith))
