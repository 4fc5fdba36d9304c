-- `hash_four_lanes::lane`: the words are copied one by one.
use Rattle.hash_four_lanes.proofs.Laws.{Copied}
use Rattle.hash_four_lanes.proofs.lane.Given as goal

abbrev pub invariant-loop-i : goal.invariant-loop-i
invariant-loop-i g l = Copied g.row.N l.s l.l l.v l.i
