-- `digest_of` meets its contract.
use mathlib.Core.List.{[]}
use Prim.Native.Nat.{◌+◌}
use native.Mathlib.Omega.{arith}
use lib.Count.{ones-le, trailing_le}
use lib.ListN.{length-take}
use Rattle.hash_stack.proofs.Tower.{tower_merges, tower_room}
use Rattle.hash_hasher.proofs.OneCall.{walk_begin, walk_turn, walk_end}
use Rattle.hash_hasher.proofs.whole.digest_of.Goals as goal

pub loop-from-init : goal.loop-from-init
loop-from-init c = walk_begin c.args.mode.key c.args.mode.flags c.args.input.now _ c.new-stack.ensures.values c.new-stack.ensures.depth

pub four_chunks-v-requires : goal.four_chunks-v-requires
four_chunks-v-requires c = (omega arith, omega (arith, c.loop-from.invariant.place))

pub push_four-requires : goal.push_four-requires
push_four-requires c =
    (c.loop-from.invariant.deep, omega (arith, c.loop-from.invariant.place))

pub loop-from-preserved : goal.loop-from-preserved
loop-from-preserved c =
    let a = c.args in c.push_four.ensures a.input.now c.loop-from.from
    (record { small = omega arith; left = omega arith; values = c.four_chunks-v.ensures }) c.loop-from.invariant

pub loop-from-2-init : goal.loop-from-2-init
loop-from-2-init c = c.loop-from.invariant

pub chunk_of-n-requires : goal.chunk_of-n-requires
chunk_of-n-requires c = simp length-take (omega arith)

pub overflow_cast-count : goal.overflow_cast-count
overflow_cast-count c = omega (arith, trailing_le 64 (c.loop-from-2.t + 1))

pub push-requires : goal.push-requires
push-requires c =
    let w = c.loop-from-2.invariant in let t = c.loop-from-2.t in (
      tower_merges [] 0 t c.loop-from-2.stack.depth w.deep,
      omega (arith, w.deep, w.place, ones-le 14 t (omega (arith, w.place))),
      tower_room [] 0 t c.loop-from-2.stack.depth w.deep (omega (arith, w.place)),
    )

pub loop-from-2-preserved : goal.loop-from-2-preserved
loop-from-2-preserved c =
    let a = c.args in walk_turn a.mode.key a.mode.flags a.input.now c.loop-from-2.stack c.loop-from-2.from c.loop-from-2.t _ (omega arith) (omega arith)
    c.loop-from-2.invariant
    c.chunk_of-n.ensures c.value.ensures c.push.ensures.depth c.push.ensures.values

pub chunk_of-n-requires-2 : goal.chunk_of-n-requires-2
chunk_of-n-requires-2 c = simp length-take (omega arith)

pub root-r-requires : goal.root-r-requires
root-r-requires c =
    let w = c.loop-from-2.invariant in omega (arith, w.deep, w.place, ones-le 14 c.loop-from-2.t (omega (arith, w.place)))

pub returns : goal.returns
returns c =
    let a = c.args in walk_end a.mode.key a.mode.flags a.input.now c.loop-from-2.stack c.loop-from-2.from c.loop-from-2.t _ _ (omega arith) (omega arith)
    c.loop-from-2.invariant
    c.chunk_of-n-2.ensures c.root-r.ensures c.value-2.ensures c.bytes_of.ensures
