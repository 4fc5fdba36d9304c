-- `hash_four_chunks::rests`: in each lane, what the rest of the message gives after the blocks so far is what the whole of it gives from h.
use mathlib.Core.Path.{refl, sym, ap}
use Prim.Native.Nat.{ℕ, ◌-◌}
use native.Mathlib.Omega.{arith}
use Rattle.theory_laws.specs.Table.{at}
use Rattle.hash_four_lanes.specs.helpers.Lane as X
use Rattle.hash_four_chunks.specs.helpers.FourChunks.{which}
use Rattle.hash_four_chunks.proofs.Laws.{which-length, block_within, walk_turn, walk_end}
use Rattle.hash_four_chunks.proofs.rests.Goals as goal

pub loop-from-init : goal.loop-from-init
loop-from-init c =
    let f = c.requires in (omega (arith), omega arith, f.begun, λ k b y. refl)

pub blocks_at-m-requires : goal.blocks_at-m-requires
blocks_at-m-requires c =
    block_within c.requires (omega arith) (omega arith)

pub loop-from-preserved : goal.loop-from-preserved
loop-from-preserved c =
    let a = c.args in let f = c.requires in let message = which a.s0.now a.s1.now a.s2.now a.s3.now in (
      omega arith,
      omega arith,
      omega (arith, f.fits),
      λ k b y.
          walk_turn a.flags c.loop-from.i (at a.counters.now k) c.loop-from.from (X.lane 8 c.loop-from.v k) _ _ (message k) _ y _
          (omega (arith, f.fits)) (omega (arith, which-length _ _ _ _ _ k f)) (c.blocks_at-m.ensures k b) c.start_flag-f.ensures
          (c.compress-v.ensures k b) (c.loop-from.invariant.3 k b y),
    )

pub blocks_at-m-requires-2 : goal.blocks_at-m-requires-2
blocks_at-m-requires-2 c =
    block_within c.requires (omega arith) (omega arith)

pub returns : goal.returns
returns c =
    let a = c.args in let message = which a.s0.now a.s1.now a.s2.now a.s3.now in
    λ k b.
    let n = which-length _ _ _ _ _ k c.requires in
    walk_end a.flags c.loop-from.i (at a.counters.now k) c.loop-from.from _ (X.lane 8 c.loop-from.v k) _ _ (message k) _ a.x _
    (ap (λ (z : ℕ). z - c.loop-from.from) (sym n)) (omega arith) (c.blocks_at-m-2.ensures k b) c.start_flag-f-2.ensures
    (c.compress.ensures k b) (c.loop-from.invariant.3 k b a.x)
