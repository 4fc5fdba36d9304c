-- `code_level_parts::put_leaves` meets its contract.
use native.Mathlib.Omega.{arith}
use borrow.Author.Rules.{rules}
use Rattle.code_commit.proofs.Sizes.{not-refused}
use Rattle.code_commit.proofs.LevelTrees.{domain-ends, domain-long, domain-is}
use Rattle.theory_field.specs.Words.{words}
use Rattle.code_level_parts.proofs.Allowed.{leaves-unrefused, leaves-built}
use Rattle.code_level_parts.proofs.put_leaves.Goals as goal

pub slice_bounds-domain-end : goal.slice_bounds-domain-end
slice_bounds-domain-end c =
    let y = c.requires in let h = domain-ends _ _ y.base_le (omega arith) c.level_domain-size.ensures (search rules) in
    search rules

pub slice_bounds-hashing-end : goal.slice_bounds-hashing-end
slice_bounds-hashing-end c =
    let y = c.requires in domain-long _ _ y.base_le (omega arith) c.level_domain-size.ensures (search rules)

pub unwrap-requires : goal.unwrap-requires
unwrap-requires c =
    let y = c.requires in
    not-refused _ (leaves-unrefused c.args.deposit.how c.args.deposit.base.now y (domain-is _ _ y.base_le (omega arith) c.level_domain-size.ensures (search rules))
    c.level_length-count.ensures c.level_width-width.ensures c.leaves.ensures.value)

pub returns : goal.returns
returns c =
    let y = c.requires in let a = c.args in leaves-built a.deposit.how a.deposit.base.now (words a.values.now) a.out.now y
    (domain-is _ _ y.base_le (omega arith) c.level_domain-size.ensures (search rules)) c.level_length-count.ensures
    c.level_width-width.ensures c.leaves.ensures.out_after
