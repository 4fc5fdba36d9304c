-- `hash_four_lanes::initial`: lane after lane.
use mathlib.Core.Path.{refl, ap, ◌∙◌}
use mathlib.Core.List.{List}
use Prim.Native.Nat.{ℕ}
use native.Mathlib.Omega.{arith}
use Rattle.theory_laws.specs.Table.{at}
use Rattle.theory_blake3.specs.Compression as C
use Rattle.hash_four_lanes.specs.helpers.Lane as X
use Rattle.hash_four_lanes.proofs.Laws.{lanes_step}
use Rattle.hash_four_lanes.proofs.initial.Goals as goal

pub loop-l-init : goal.loop-l-init
loop-l-init c = (refl, λ k h. absurd (omega arith))

pub store-requires : goal.store-requires
store-requires c =
    (omega arith, c.loop-l.invariant.0)

pub loop-l-preserved : goal.loop-l-preserved
loop-l-preserved c =
    let a = c.args in (
      c.store.ensures.size,
      lanes_step c.loop-l.s _ _ c.loop-l.l
          (λ (k : ℕ). C.initial (X.lane 8 a.h.now k) (at a.counters.now k) a.len a.flags) (omega arith) c.store.ensures
          (c.initial-v.ensures ∙ ap (λ (v : List ℕ). C.initial v (at a.counters.now c.loop-l.l) a.len a.flags)
          c.lane.ensures) c.loop-l.invariant.1,
    )

pub returns : goal.returns
returns c =
    record { result_len = c.loop-l.invariant.0; each = λ k b. c.loop-l.invariant.1 k (omega arith) }
