-- `ring_partials::sums::partials` meets its contract: the words so far came into the buckets, and the bits so far out of them.
use mathlib.Core.Path.{◌≡◌}
use Prim.Native.Nat.{ℕ}
use lib.ListN.{length}
use Rattle.theory_laws.specs.Table.{at}
use Rattle.theory_field.specs.Words.{words}
use Rattle.theory_multilinear.specs.Partials.{partial}
use Rattle.ring_partials.specs.helpers.Buckets.{gathered}
use Rattle.theory_field.proofs.Words.{Filled}
use Rattle.ring_partials.proofs.sums.partials.Given as goal

abbrev pub invariant-loop-v : goal.invariant-loop-v
invariant-loop-v l =
    (b : ℕ) → gathered (words l.buckets) b ≡ partial l.v (at (words l.ws)) (at (words l.es)) b

abbrev pub invariant-loop-b : goal.invariant-loop-b
invariant-loop-b l =
    (length l.out ≡ 256) × Filled (gathered (words l.buckets)) l.b l.out
