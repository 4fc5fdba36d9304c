-- `hash_four_lanes::store`: the words go to the places of lane l, and no other place is written.
use mathlib.Core.Path.{refl, sym}
use native.Mathlib.Omega.{arith}
use lib.ListN.{length-set}
use Rattle.hash_four_lanes.proofs.Laws.{lane-ext, lane-all, store_at, store_other}
use Rattle.hash_four_lanes.proofs.store.Goals as goal

pub loop-i-init : goal.loop-i-init
loop-i-init c = (c.requires.1, (λ j h. absurd (omega arith)), λ j k p q. refl)

pub loop-i-preserved : goal.loop-i-preserved
loop-i-preserved c =
    let a = c.args in (
      simp length-set c.loop-i.invariant.0,
      store_at c.loop-i.s a.v a.l c.loop-i.i _ (omega arith) refl c.loop-i.invariant.1,
      store_other c.loop-i.s a.s.now a.l c.loop-i.i _ (omega arith) c.loop-i.invariant.2,
    )

pub returns : goal.returns
returns c =
    let a = c.args in record {
      size = c.loop-i.invariant.0;
      here = sym (lane-all 16 c.loop-i.s a.v a.l (omega arith) (λ k h. sym (c.loop-i.invariant.1 k (omega arith))));
      others = λ k b q. lane-ext 16 c.loop-i.s a.s.now k (λ i h. c.loop-i.invariant.2 i k b q);
    }
