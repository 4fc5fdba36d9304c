-- `Hasher::next_chunk` meets its contract.
use Prim.Native.Nat.{◌+◌, ◌^◌, ◌<◌}
use native.Mathlib.Omega.{arith}
use lib.Count.{ones-le, trailing_le}
use Rattle.hash_stack.proofs.Tower.{tower_merges, tower_room}
use Rattle.hash_hasher.proofs.Absorb.{next_law}
use Rattle.hash_hasher.proofs.hasher.Hasher.next_chunk.Goals as goal

pub last-n-requires : goal.last-n-requires
last-n-requires c = c.requires.0.within

pub overflow_cast-count : goal.overflow_cast-count
overflow_cast-count c =
    omega (arith, trailing_le 64 (c.args.self.now.chunk.counter + 1))

pub push-requires : goal.push-requires
push-requires c =
    let s = c.args.self.now in let k = c.requires.0 in let t = s.chunk.counter in
    let n : t + 1 < 2 ^ 14 = omega (arith, k.sum, k.small, c.requires.1) in (
      tower_merges s.key s.chunk.flags t s.stack.depth k.deep,
      omega (arith, k.deep, ones-le 14 t (omega arith)),
      tower_room s.key s.chunk.flags t s.stack.depth k.deep n,
    )

pub returns : goal.returns
returns c =
    next_law c.args.self.now c.mode-mode.result c.mode-mode.ensures c.start-self.ensures c.push.ensures.depth c.push.ensures.values c.value.ensures
    (c.last-n.ensures 0)
