-- `hash_four_lanes::compress`: in each lane, the state to start from, the seven rounds and the output.
use Rattle.theory_laws.specs.Table.{at}
use Rattle.hash_four_lanes.specs.helpers.Lane as X
use Rattle.hash_four_lanes.proofs.Laws.{compress-lane}
use Rattle.hash_four_lanes.proofs.compress.Goals as goal

pub returns : goal.returns
returns c =
    let a = c.args in λ k b. compress-lane (X.lane 8 a.h.now k) (X.lane 16 a.m.now k) (at a.counters.now k) a.len a.flags (c.output.ensures k b)
    (c.rounds.ensures k b) (c.initial-s.ensures.each k b)
