-- `record_query_build::put_paths` meets its contract.
use Rattle.record_query_build.proofs.Puts.{first_group, paths_put}
use borrow.Author.Rules.{rules}
use Rattle.record_query_build.proofs.put_paths.Goals as goal

pub put_digests-a-requires : goal.put_digests-a-requires
put_digests-a-requires c =
    let a = c.requires.a_there in
    let e = first_group _ _ c.group_of-g.ensures c.first_of_pair.ensures in
    record { groups_are = a.groups_are; group_lt = rw e a.group_lt; tree_there = a.tree_there; fits = search rules }

pub put_digests-requires : goal.put_digests-requires
put_digests-requires c =
    let a = c.requires.c_there in
    record {
      groups_are = a.groups_are;
      group_lt = rw c.group_of-h.ensures a.group_lt;
      tree_there = a.tree_there;
      fits = search rules;
    }

pub returns : goal.returns
returns c =
    paths_put _ _ _ (first_group _ _ c.group_of-g.ensures c.first_of_pair.ensures) c.group_of-h.ensures _
    c.put_digests-a.ensures c.put_digests.ensures
