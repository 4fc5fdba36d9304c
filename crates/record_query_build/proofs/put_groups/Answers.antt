-- `record_query_build::put_groups` meets its contract.
use Rattle.record_query_build.proofs.Puts.{first_group, groups_put}
use borrow.Author.Rules.{rules}
use Rattle.record_query_build.proofs.put_groups.Goals as goal

pub put_values-a-requires : goal.put_values-a-requires
put_values-a-requires c =
    let e = first_group _ _ c.group_of-g.ensures c.first_of_pair.ensures in
    record { values-there = rw e c.requires.a_there.values-there; fits = search rules }

pub put_values-requires : goal.put_values-requires
put_values-requires c =
    record { values-there = rw c.group_of-h.ensures c.requires.c_there.values-there; fits = search rules }

pub returns : goal.returns
returns c =
    groups_put _ _ _ (first_group _ _ c.group_of-g.ensures c.first_of_pair.ensures) c.group_of-h.ensures _
    c.put_values-a.ensures c.put_values.ensures
