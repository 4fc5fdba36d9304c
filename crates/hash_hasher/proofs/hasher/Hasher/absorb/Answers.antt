-- `Hasher::absorb` meets its contract.
use mathlib.Core.Path.{◌≡◌, refl, ◌∙◌}
use Prim.Native.Nat.{◌≤◌, ◌<◌, ◌-◌, ◌+◌, ◌*◌}
use native.Mathlib.Omega.{arith}
use lib.ListN.{length, drop_of_length-le}
use Rattle.theory_laws.specs.Lists.{part}
use Rattle.theory_laws.proofs.Lists.{length_part}
use Rattle.hash_hasher.specs.Hasher as S
use Rattle.hash_hasher.proofs.Absorb.{Roomed, roomed_full, roomed_not, lent_fits, lent-fed, counts_same, absorb_turn, absorb_counts}
use Rattle.hash_hasher.proofs.hasher.Hasher.absorb.Goals as goal
use Rattle.hash_hasher.proofs.hasher.Hasher.absorb.Goals.{Joined-self-eq1024, then-self-eq1024, else-self-eq1024}

pub loop-i-init : goal.loop-i-init
loop-i-init c = (
  omega arith,
  counts_same (let e : length c.args.input.now ≡ length c.args.input.now - 0 = omega arith in e) c.requires,
  refl,
)

pub overflow_mul-self : goal.overflow_mul-self
overflow_mul-self c = omega (arith, c.loop-i.invariant.1.low)

pub overflow_add-self : goal.overflow_add-self
overflow_add-self c = omega (arith, c.loop-i.invariant.1.low, c.loop-i.invariant.1.within)

pub next_chunk-requires : goal.next_chunk-requires
next_chunk-requires c =
    let k = c.loop-i.invariant.1 in
    (record { small = omega (arith, k.small); low = k.low; within = k.within; sum = k.sum; deep = k.deep }, c.if-self-eq1024.true)

-- and there is room for a byte
joined : (c : Joined-self-eq1024) → Roomed c.loop-i.self c.if-self-eq1024.self (length c.args.input.now - c.loop-i.i)
joined c =
    elim c.if-self-eq1024.branch [
      | then-self-eq1024 w ↦ roomed_full _ _ _ (omega arith) c.loop-i.invariant.1 w.if-self-eq1024.true (w.self-is ∙ w.next_chunk.ensures)
      | else-self-eq1024 w ↦ roomed_not _ _ _ c.loop-i.invariant.1 w.if-self-eq1024.false w.self-is
    ]

pub overflow_mul-room : goal.overflow_mul-room
overflow_mul-room c = omega (arith, (joined (goal.at.overflow_mul-room c).Joined-self-eq1024).counts.low)

pub overflow_add-room : goal.overflow_add-room
overflow_add-room c = omega (arith, (joined (goal.at.overflow_add-room c).Joined-self-eq1024).room)

pub overflow_sub-room : goal.overflow_sub-room
overflow_sub-room c = omega (arith, (joined (goal.at.overflow_sub-room c).Joined-self-eq1024).room)

pub feed-self-requires : goal.feed-self-requires
feed-self-requires c =
    let j = joined (goal.at.feed-self-requires c).Joined-self-eq1024 in
    lent_fits c.if-self-eq1024.self c.args.input.now c.loop-i.i c.min-n.result
    (omega arith) j.counts.within (omega (arith, j.room))

pub overflow_add-self-in-loop-i : goal.overflow_add-self-in-loop-i
overflow_add-self-in-loop-i c =
    omega (arith, (joined (goal.at.overflow_add-self-in-loop-i c).Joined-self-eq1024).counts.small)

pub loop-i-smaller : goal.loop-i-smaller
loop-i-smaller c =
    omega (arith, (joined (goal.at.loop-i-smaller c).Joined-self-eq1024).room, c.loop-i-test.true)

pub loop-i-preserved : goal.loop-i-preserved
loop-i-preserved c =
    let a = c.args in let j = joined (goal.at.loop-i-preserved c).Joined-self-eq1024 in
    let u = c.if-self-eq1024.self in let n = c.min-n.result in let t : c.loop-i.i < length a.input.now = c.loop-i-test.true in
    let p : 0 < n = omega (arith, j.room) in
    let f : 64 * u.chunk.blocks + u.chunk.fill + n ≤ 1024 = omega (arith, j.room) in
    let b : c.loop-i.i + n ≤ length a.input.now = omega arith in
    let g = lent-fed u a.input.now c.loop-i.i n c.feed-self.ensures in (
      b,
      absorb_counts u (part n c.loop-i.i a.input.now) (length a.input.now - c.loop-i.i) n (length a.input.now - (c.loop-i.i + n)) j.counts
          (length_part n c.loop-i.i a.input.now b) p f (omega arith) g refl,
      absorb_turn c.loop-i.self u a.input.now c.loop-i.i n j.same p (record { within = j.counts.within; small = f }) b g refl c.loop-i.invariant.2,
    )

pub returns : goal.returns
unfolding S.absorbed
returns c =
    rw (drop_of_length-le c.args.input.now {i = c.loop-i.i} (omega arith)) at c.loop-i.invariant.2
