-- `record_opening::opening_number` meets its contract.
use Rattle.record_opening.proofs.Numbers.{wrong_width, wrong_depth, wrong_root, all_right, now_sized}
use Rattle.record_opening.proofs.opening_number.Goals as goal

pub returns-then-count_at-level_width : goal.returns-then-count_at-level_width
returns-then-count_at-level_width c = λ first. wrong_width _ _ _ _ _ _ _ _ _ _ 0 0 c.count_at.ensures.0 c.level_width.ensures c.if-count_at-level_width.true

pub returns-then-count_at-level_depth : goal.returns-then-count_at-level_depth
returns-then-count_at-level_depth c =
    λ first. wrong_depth _ _ _ _ _ _ _ _ _ _ _ _ c.count_at.ensures.0 c.level_width.ensures c.if-count_at-level_width.false
    c.count_at-2.ensures.0 c.level_depth.ensures c.if-count_at-level_depth.true

pub leads_to-d-requires : goal.leads_to-d-requires
leads_to-d-requires c =
    now_sized _ _ _ _ _ _ _ _ _ c.requires c.count_at.ensures.0 c.level_width.ensures c.if-count_at-level_width.false
    c.count_at-2.ensures.0 c.level_depth.ensures c.if-count_at-level_depth.false

pub returns-then-not-same_digest : goal.returns-then-not-same_digest
returns-then-not-same_digest c =
    λ first. wrong_root _ _ _ _ _ _ _ _ _ _ _ _ c.count_at.ensures.0 c.level_width.ensures c.if-count_at-level_width.false
    c.count_at-2.ensures.0 c.level_depth.ensures c.if-count_at-level_depth.false _ _ c.leads_to-d.ensures
    c.same_digest.ensures c.if-not-same_digest.true

pub returns : goal.returns
returns c =
    λ first. all_right _ _ _ _ _ _ _ _ _ _ _ _ c.count_at.ensures.0 c.level_width.ensures c.if-count_at-level_width.false
    c.count_at-2.ensures.0 c.level_depth.ensures c.if-count_at-level_depth.false _ _ c.leads_to-d.ensures
    c.same_digest.ensures c.if-not-same_digest.false
