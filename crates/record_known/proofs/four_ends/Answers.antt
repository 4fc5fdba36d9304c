-- `record_known::four_ends` meets its contract.
use Rattle.record_known.proofs.Lanes.{all_or_nowhere, ends_read}
use Rattle.record_known.proofs.four_ends.Goals as goal

pub climb_lanes-digests-requires : goal.climb_lanes-digests-requires
climb_lanes-digests-requires c =
    let p = c.requires in
    (p.0, p.1, all_or_nowhere _ _ _ _ _ _ p.2 c.or_nowhere-a.ensures c.or_nowhere-b.ensures c.or_nowhere-c.ensures c.or_nowhere-d.ensures)

pub returns : goal.returns
returns c =
    ends_read _ _ _ _ _ _ _ _ _ _ _ _ _ _ _ _ _ _ c.is_some.ensures c.is_some-2.ensures c.is_some-3.ensures c.is_some-4.ensures c.or_nowhere-a.ensures c.or_nowhere-b.ensures c.or_nowhere-c.ensures c.or_nowhere-d.ensures
    c.climb_lanes-digests.ensures c.end_in-first.ensures c.end_in-second.ensures c.end_in-third.ensures c.end_in-fourth.ensures
