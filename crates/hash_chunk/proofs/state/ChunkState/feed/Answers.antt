-- `ChunkState::feed` meets its contract.
use mathlib.Core.Path.{refl, ◌∙◌}
use Prim.Native.Nat.{◌≤◌, ◌<◌, ◌+◌}
use native.Mathlib.Omega.{arith}
use lib.ListN.{drop_of_length-le}
use Rattle.hash_chunk.specs.State as S
use Rattle.hash_chunk.proofs.Feed.{Roomed, roomed_full, roomed_not, feed_turn}
use Rattle.hash_chunk.proofs.state.ChunkState.feed.Goals as goal
use Rattle.hash_chunk.proofs.state.ChunkState.feed.Goals.{Joined-s-eq64, then-s-eq64, else-s-eq64}

pub loop-i-init : goal.loop-i-init
loop-i-init c = (omega arith, c.requires.within, omega arith, refl)

-- where the arms meet there is room for a byte
joined : (c : Joined-s-eq64) → Roomed c.loop-i.s c.if-s-eq64.s
joined c =
    elim c.if-s-eq64.branch [
      | then-s-eq64 w ↦ roomed_full _ _ w.if-s-eq64.true (w.s-is ∙ w.compressed-s.ensures)
      | else-s-eq64 w ↦ roomed_not _ _ c.loop-i.invariant.1 w.if-s-eq64.false w.s-is
    ]

pub overflow_sub-to : goal.overflow_sub-to
overflow_sub-to c = omega (arith, (joined (goal.at.overflow_sub-to c).Joined-s-eq64).room)

pub filled-b-requires : goal.filled-b-requires
filled-b-requires c = omega (arith, (joined (goal.at.filled-b-requires c).Joined-s-eq64).room)

pub overflow_add-s : goal.overflow_add-s
overflow_add-s c = omega (arith, (joined (goal.at.overflow_add-s c).Joined-s-eq64).room)

pub loop-i-smaller : goal.loop-i-smaller
loop-i-smaller c = omega (arith, (joined (goal.at.loop-i-smaller c).Joined-s-eq64).room)

pub loop-i-preserved : goal.loop-i-preserved
loop-i-preserved c =
    let a = c.args in let j = joined (goal.at.loop-i-preserved c).Joined-s-eq64 in
    let u = c.if-s-eq64.s in let n = c.min-n.result in let p : 0 < n = omega (arith, j.room) in
    let f : u.fill + n ≤ 64 = omega (arith, j.room) in (
      omega arith,
      f,
      omega (arith, j.count),
      feed_turn c.loop-i.s u a.input.now _ c.loop-i.i n _ j.same p f (omega arith) c.filled-b.ensures c.loop-i.invariant.3,
    )

pub returns : goal.returns
unfolding S.fed
returns c =
    rw (drop_of_length-le c.args.input.now {i = c.loop-i.i} (omega arith)) at c.loop-i.invariant.3
