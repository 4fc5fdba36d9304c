-- `tree_four_ways::settled` meets its contract. The loop's invariant: the first k digests are settled.
use Prim.Native.Nat.{ℕ, ◌<◌}
use mathlib.Core.Path.{◌≡◌}
use lib.Dec.{ltb}
use lib.ListN.{length}
use Rattle.theory_laws.specs.Table as T
use Rattle.theory_laws.specs.Questions.{pick}
use Rattle.theory_blake3.specs.Digest.{bytes_of_words32}
use Rattle.hash_four_lanes.specs.helpers.Lane.{lane}
use Rattle.tree_four_ways.specs.helpers.Ways.{digest_of}
use Rattle.tree_four_ways.specs.helpers.Lists.{depths}
use Rattle.tree_four_ways.proofs.settled.Given as goal

abbrev pub invariant-loop-k : goal.invariant-loop-k
invariant-loop-k l =
    (length l.r ≡ 128)
    × ((j : ℕ) → j < l.k → digest_of l.r j ≡ pick (ltb l.level (T.at (depths l.lanes) j)) (bytes_of_words32 (lane 8 l.v j)) (digest_of l.digests j))
