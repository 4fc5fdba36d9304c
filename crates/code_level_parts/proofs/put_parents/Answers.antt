-- `code_level_parts::put_parents` meets its contract.
use native.Mathlib.Omega.{arith}
use borrow.Author.Rules.{rules}
use Rattle.code_commit.proofs.Sizes.{not-refused}
use Rattle.code_commit.proofs.LevelTrees.{domain-ends, domain-long, domain-is}
use Rattle.code_level_parts.proofs.Allowed.{parents-unrefused, parents-built}
use Rattle.code_level_parts.proofs.put_parents.Goals as goal

pub slice_bounds-domain-end : goal.slice_bounds-domain-end
slice_bounds-domain-end c =
    let y = c.requires in let h = domain-ends _ _ y.base_le (omega arith) c.level_domain-size.ensures (search rules) in
    search rules

pub slice_bounds-hashing-end : goal.slice_bounds-hashing-end
slice_bounds-hashing-end c =
    let y = c.requires in domain-long _ _ y.base_le (omega arith) c.level_domain-size.ensures (search rules)

pub unwrap-requires : goal.unwrap-requires
unwrap-requires c =
    let y = c.requires in
    not-refused _ (parents-unrefused c.args.base.now y (domain-is _ _ y.base_le (omega arith) c.level_domain-size.ensures (search rules)) c.parents.ensures.value)

pub returns : goal.returns
returns c =
    let y = c.requires in let a = c.args in parents-built _ a.height a.base.now a.children.now a.out.now y
    (domain-is _ _ y.base_le (omega arith) c.level_domain-size.ensures (search rules))
    c.parents.ensures.out_after
