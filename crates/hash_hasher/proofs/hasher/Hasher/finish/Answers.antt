-- `Hasher::finish` meets its contract.
use native.Mathlib.Omega.{arith}
use lib.Count.{ones-le}
use Rattle.hash_hasher.proofs.Absorb.{finish_law}
use Rattle.hash_hasher.proofs.hasher.Hasher.finish.Goals as goal

pub last-requires : goal.last-requires
last-requires c = c.requires.counts.within

pub root-r-requires : goal.root-r-requires
root-r-requires c =
    let k = c.requires.counts in omega (arith, k.deep, ones-le 14 c.args.self.now.chunk.counter (omega (arith, k.sum, k.small, c.requires.some)))

pub returns : goal.returns
returns c =
    finish_law c.args.self.now c.mode.result c.mode.ensures c.bytes_of.ensures c.value.ensures (c.root-r.ensures 8) c.last.ensures
