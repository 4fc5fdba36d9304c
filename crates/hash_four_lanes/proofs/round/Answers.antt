-- `hash_four_lanes::round`: lane after lane, the words in their order and a round over them; the lanes not yet reached are as they were.
use mathlib.Core.Path.{refl}
use Prim.Native.Nat.{ℕ}
use native.Mathlib.Omega.{arith}
use Rattle.theory_blake3.specs.Compression as C
use Rattle.theory_blake3.specs.Orders as O
use Rattle.hash_four_lanes.specs.helpers.Lane as X
use Rattle.hash_four_lanes.proofs.Laws.{lanes_step, lanes_rest, round-lane}
use Rattle.hash_four_lanes.proofs.round.Goals as goal

pub loop-l-init : goal.loop-l-init
loop-l-init c = (c.requires.1, (λ k h. absurd (omega arith)), λ k p q. refl)

pub ordered-w-requires : goal.ordered-w-requires
ordered-w-requires c = (c.requires.0, omega arith)

pub store-requires : goal.store-requires
store-requires c =
    (omega arith, c.loop-l.invariant.0)

pub loop-l-preserved : goal.loop-l-preserved
loop-l-preserved c =
    let p = c.loop-l in let a = c.args in let q = round-lane (X.lane 16 a.s.now p.l) (X.lane 16 a.m.now p.l) a.o.now
    c.ordered-w.ensures c.lane-v.ensures (p.invariant.2 p.l (omega arith) (omega arith)) c.round_0.ensures in (
      c.store.ensures.size,
      lanes_step p.s _ _ p.l
          (λ (k : ℕ). C.round (X.lane 16 a.s.now k) (O.ordered (X.lane 16 a.m.now k) a.o.now)) (omega arith) c.store.ensures q
          p.invariant.1,
      lanes_rest a.s.now p.s _ _ p.l c.store.ensures p.invariant.2,
    )

pub returns : goal.returns
returns c =
    record { s_len = c.loop-l.invariant.0; each = λ k b. c.loop-l.invariant.1 k (omega arith) }
