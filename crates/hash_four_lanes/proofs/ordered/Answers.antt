-- `hash_four_lanes::ordered`: each word is read where the order has it.
use mathlib.Core.Path.{refl}
use Prim.Native.Nat.{ℕ}
use native.Mathlib.Omega.{arith}
use lib.ListN.{length-set}
use Rattle.theory_laws.specs.Table.{at}
use Rattle.theory_laws.proofs.Updates.{fill_step}
use Rattle.theory_blake3.specs.Orders as O
use Rattle.hash_four_lanes.specs.helpers.Lane as X
use Rattle.hash_four_lanes.proofs.Laws.{ordered_at, ordered-all}
use Rattle.hash_four_lanes.proofs.ordered.Goals as goal

pub loop-i-init : goal.loop-i-init
loop-i-init c = (refl, λ k h. absurd (omega arith))

pub overflow_cast-k : goal.overflow_cast-k
unfolding O.Small
overflow_cast-k c = omega (arith, c.requires.0 c.loop-i.i (omega arith))

pub overflow_mul-v : goal.overflow_mul-v
unfolding O.Small
overflow_mul-v c = omega (arith, c.requires.0 c.loop-i.i (omega arith))

pub overflow_add-v : goal.overflow_add-v
unfolding O.Small
overflow_add-v c = omega (arith, c.requires.0 c.loop-i.i (omega arith))

pub offset_bounds-m-k : goal.offset_bounds-m-k
unfolding O.Small
offset_bounds-m-k c = omega (arith, c.requires.0 c.loop-i.i (omega arith))

pub bounds-m-k : goal.bounds-m-k
unfolding O.Small
bounds-m-k c = omega (arith, c.requires.0 c.loop-i.i (omega arith))

pub loop-i-preserved : goal.loop-i-preserved
loop-i-preserved c =
    let a = c.args in (
      simp length-set c.loop-i.invariant.0,
      fill_step (λ (k : ℕ). at (X.lane 16 a.m.now a.l) (at a.o.now k)) c.loop-i.i c.loop-i.v _
          (omega arith) (ordered_at a.m.now a.o.now a.l c.loop-i.i c.requires.0 (omega arith)) c.loop-i.invariant.1,
    )

pub returns : goal.returns
returns c =
    let a = c.args in ordered-all (X.lane 16 a.m.now a.l) a.o.now c.loop-i.v c.loop-i.invariant.0 (λ k h. c.loop-i.invariant.1 k (omega arith))
