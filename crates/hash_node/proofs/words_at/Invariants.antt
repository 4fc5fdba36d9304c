-- `words_at` meets its contract: the words before i are those of the block.
use mathlib.Core.Path.{◌≡◌}
use Prim.Native.Nat.{ℕ, ◌<◌}
use lib.ListN.{length}
use Rattle.theory_laws.specs.Table.{at}
use Rattle.theory_laws.specs.Lists.{part}
use Rattle.theory_blake3.specs.Chunk.{word}
use Rattle.hash_node.proofs.words_at.Given as goal

abbrev pub invariant-loop-i : goal.invariant-loop-i
invariant-loop-i l = (length l.m ≡ 16) × ((k : ℕ) → k < l.i → at l.m k ≡ word (part 64 l.from l.s) k)
