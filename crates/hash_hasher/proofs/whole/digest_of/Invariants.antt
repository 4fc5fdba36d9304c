-- `digest_of`: four chunks at a time, then one at a time, the stack stands for the chunks so far; the last chunk is the rest.
use Prim.Native.Nat.{◌-◌}
use lib.ListN.{length}
use Rattle.hash_hasher.specs.helpers.Walk.{Walked}
use Rattle.hash_hasher.proofs.whole.digest_of.Given as goal

abbrev pub invariant-loop-from : goal.invariant-loop-from
invariant-loop-from l = Walked l.mode.key l.mode.flags l.input l.stack l.from l.t

abbrev pub decreases-loop-from : goal.decreases-loop-from
decreases-loop-from l = length l.input - l.from

abbrev pub invariant-loop-from-2 : goal.invariant-loop-from-2
invariant-loop-from-2 l = Walked l.mode.key l.mode.flags l.input l.stack l.from l.t

abbrev pub decreases-loop-from-2 : goal.decreases-loop-from-2
decreases-loop-from-2 l = length l.input - l.from
