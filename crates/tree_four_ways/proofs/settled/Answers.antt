-- `tree_four_ways::settled` meets its contract. The loop's invariant: the first k digests are settled.
use mathlib.Core.Path.{refl}
use native.Mathlib.Omega.{arith}
use lib.Dec.{ltb}
use Rattle.theory_laws.specs.Table as T
use Rattle.theory_laws.specs.Questions.{pick}
use Rattle.theory_blake3.specs.Digest.{bytes_of_words32}
use Rattle.hash_four_lanes.specs.helpers.Lane.{lane}
use Rattle.tree_four_ways.specs.helpers.Ways.{digest_of}
use Rattle.tree_four_ways.specs.helpers.Lists.{depths}
use Rattle.tree_four_ways.proofs.Fields.{depth_at}
use Rattle.tree_four_ways.proofs.Ways.{digests-step, chosen_is}
use borrow.Author.Rules.{rules}
use Rattle.tree_four_ways.proofs.settled.Goals as goal

pub loop-k-init : goal.loop-k-init
loop-k-init c = (search rules, λ j h. absurd (omega arith))

pub loop-k-preserved : goal.loop-k-preserved
loop-k-preserved c =
    let a = c.args in let inv = c.loop-k.invariant in let k = c.loop-k.k in (
      search rules,
      digests-step (λ j. pick (ltb a.level (T.at (depths a.lanes) j)) (bytes_of_words32 (lane 8 a.v.now j)) (digest_of a.digests j)) k _ _ _ _ _ _
          c.loop-k-test.true inv.0 (omega arith) refl
          (chosen_is a.level (T.at (depths a.lanes) k) _ _ _ _ _ (rw (← depth_at a.lanes k c.loop-k-test.true) at c.chosen-d.ensures) c.lane_bytes-new.ensures c.load-old.ensures)
          c.put.ensures inv.1,
    )

pub returns : goal.returns
returns c = λ j h. c.loop-k.invariant.1 j (omega arith)
