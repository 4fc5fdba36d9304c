-- `record_opening::same_opening` meets its contract.
use lib.ListN.{length}
use Rattle.record_opening.proofs.Again.{BothRoom, no_claim, both-room, openings_same}
use borrow.Author.Rules.{rules}
use Rattle.record_opening.proofs.same_opening.Goals as goal
use Rattle.record_opening.proofs.same_opening.Goals.{Else-count_at-depth}

pub returns-then-count_at-width : goal.returns-then-count_at-width
returns-then-count_at-width c = λ e. no_claim e

pub returns-then-count_at-depth : goal.returns-then-count_at-depth
returns-then-count_at-depth c = λ e. no_claim e

-- both openings are all there
room : (c : Else-count_at-depth)
    → let a = c.args in BothRoom (length a.s.now) a.at.group_at a.at.path_at a.old a.width a.depth
room c =
    let p = c.requires in
    both-room _ _ _ _ _ _ _ _ p.0 p.1 p.2 p.3 c.count_at.ensures.0 c.if-count_at-width.false
    c.count_at-2.ensures.0 c.if-count_at-depth.false

pub overflow_add-at : goal.overflow_add-at
overflow_add-at c =
    let h = room (goal.at.overflow_add-at c).Else-count_at-depth in
    search rules

pub overflow_add-old : goal.overflow_add-old
overflow_add-old c =
    let h = room (goal.at.overflow_add-old c).Else-count_at-depth in
    search rules

pub same_items-requires : goal.same_items-requires
same_items-requires c =
    let h = room (goal.at.same_items-requires c).Else-count_at-depth in
    (h.group_room, h.old_group_room)

pub returns-then-not-same_items : goal.returns-then-not-same_items
returns-then-not-same_items c = λ e. no_claim e

pub overflow_add-at-2 : goal.overflow_add-at-2
overflow_add-at-2 c =
    let h = room (goal.at.overflow_add-at-2 c).Else-count_at-depth in
    search rules

pub overflow_add-old-2 : goal.overflow_add-old-2
overflow_add-old-2 c =
    let h = room (goal.at.overflow_add-old-2 c).Else-count_at-depth in
    search rules

pub same_items-requires-2 : goal.same_items-requires-2
same_items-requires-2 c =
    let h = room (goal.at.same_items-requires-2 c).Else-count_at-depth in
    (h.path_room, h.old_path_room)

pub returns : goal.returns
returns c =
    let p = c.requires in
    λ e. openings_same _ _ _ _ _ _ _ _ c.count_at.ensures.0 c.if-count_at-width.false c.count_at-2.ensures.0 c.if-count_at-depth.false
    p.3 p.2 (c.same_items.ensures c.if-not-same_items.false) (c.same_items-2.ensures e)
