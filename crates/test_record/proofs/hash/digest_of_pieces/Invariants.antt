-- A size has a number below 8, and each piece has a byte at least, so the loop ends.
use Prim.Native.Nat.{◌<◌}
use lib.ListN.{length}
use Rattle.test_record.proofs.hash.digest_of_pieces.Given as goal

abbrev pub invariant-loop-rest : goal.invariant-loop-rest
invariant-loop-rest l = l.k < 8

abbrev pub decreases-loop-rest : goal.decreases-loop-rest
decreases-loop-rest l = length l.rest
