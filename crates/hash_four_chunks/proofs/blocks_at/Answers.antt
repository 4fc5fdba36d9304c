-- `hash_four_chunks::blocks_at`: lane after lane.
use mathlib.Core.List.{List}
use Prim.Native.Nat.{ℕ}
use Rattle.theory_laws.specs.Lists.{part}
use Rattle.theory_blake3.specs.Chunk as B
use Rattle.hash_four_chunks.proofs.Laws.{four_lanes}
use Rattle.hash_four_chunks.proofs.blocks_at.Goals as goal

pub returns : goal.returns
returns c =
    let a = c.args in four_lanes (λ (s : List ℕ). B.block (part a.n a.from s)) a.s0.now a.s1.now a.s2.now a.s3.now
    c.block_words.ensures c.store.ensures c.block_words-2.ensures
    c.store-2.ensures c.block_words-3.ensures c.store-3.ensures
    c.block_words-4.ensures c.store-4.ensures
