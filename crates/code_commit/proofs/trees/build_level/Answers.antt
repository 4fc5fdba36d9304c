-- `code_commit::trees::build_level` meets its contract.
use native.Mathlib.Omega.{arith}
use Rattle.code_commit.proofs.LevelTrees.{domain-ends, domain-long, domain-is, level-unrefused, level-built}
use Rattle.code_commit.proofs.Sizes.{not-refused}
use borrow.Author.Rules.{rules}
use Rattle.code_commit.proofs.trees.build_level.Goals as goal

pub slice_bounds-domain-end : goal.slice_bounds-domain-end
slice_bounds-domain-end c =
    let y = (c.requires) in
    let h = domain-ends _ _ y.base_le (omega arith) c.level_domain-size.ensures (search rules) in
    search rules

pub slice_bounds-hashing-end : goal.slice_bounds-hashing-end
slice_bounds-hashing-end c =
    let y = c.requires in domain-long _ _ y.base_le (omega arith) c.level_domain-size.ensures (search rules)

pub unwrap-requires : goal.unwrap-requires
unwrap-requires c =
    let y = c.requires in
    not-refused _ (level-unrefused c.args.deposit.how _ y (domain-is _ _ y.base_le (omega arith) c.level_domain-size.ensures (search rules)) c.level_length-count.ensures
    c.level_width-width.ensures c.build.ensures.value)

pub returns : goal.returns
returns c =
    let y = c.requires in level-built _ _ _ _ y (domain-is _ _ y.base_le (omega arith) c.level_domain-size.ensures (search rules)) c.level_length-count.ensures
    c.level_width-width.ensures c.build.ensures.tree_after
