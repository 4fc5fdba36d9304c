-- `record_opening::leads_to` meets its contract.
use native.Mathlib.Omega.{arith}
use Rattle.tree_digest.proofs.Messages.{message-length, prefix-is}
use Rattle.record_opening.proofs.Levels.{sized-room, domain-room, leads_is}
use borrow.Author.Rules.{rules}
use Rattle.record_opening.proofs.leads_to.Goals as goal

pub slice_bounds-domain-end : goal.slice_bounds-domain-end
slice_bounds-domain-end c =
    let h = sized-room _ c.requires in
    search rules

pub slice_bounds-hashing-end : goal.slice_bounds-hashing-end
slice_bounds-hashing-end c =
    let h = sized-room _ c.requires in
    message-length _ _ _ _ _ _ c.level_domain-d.ensures (omega arith)

pub overflow_add-at : goal.overflow_add-at
overflow_add-at c =
    let h = sized-room _ c.requires in
    search rules

pub overflow_add-at-2 : goal.overflow_add-at-2
overflow_add-at-2 c =
    let h = sized-room _ c.requires in
    search rules

pub root_from-requires : goal.root_from-requires
root_from-requires c =
    let h = sized-room _ c.requires in
    (domain-room _ _ _ _ _ c.level_domain-d.ensures (omega arith) h.domain_short, omega arith, omega arith, omega arith, omega arith)

pub returns : goal.returns
returns c =
    let p = c.requires in
    let h = sized-room _ p in
    leads_is _ _ _ _ _ _ _ _ _ _ _ p c.root_from.ensures (prefix-is _ _ _ _ _ c.level_domain-d.ensures (omega arith))
    c.level_length-count.ensures c.level_width-width.ensures c.level_depth-depth.ensures
