-- `record_reader::run_at` meets its contract: no count, no items, or all of them.
use Rattle.record_reader.proofs.Runs.{product_small, no_count, no_items, all-items}
use borrow.Author.Rules.{rules}
use Rattle.record_reader.proofs.run_at.Goals as goal

pub returns-then-left-lt4 : goal.returns-then-left-lt4
returns-then-left-lt4 c = no_count _ _ _ c.if-left-lt4.true

pub overflow_mul-size : goal.overflow_mul-size
overflow_mul-size c =
    let h = product_small _ _ c.requires.1 c.count_at-count.ensures.1 in
    search rules

pub overflow_add-size : goal.overflow_add-size
overflow_add-size c =
    let h = product_small _ _ c.requires.1 c.count_at-count.ensures.1 in
    search rules

pub returns-then-left-size : goal.returns-then-left-size
returns-then-left-size c = no_items _ _ _ _ c.count_at-count.ensures.0 c.if-left-lt4.false c.if-left-size.true

pub returns : goal.returns
returns c = all-items _ _ _ _ c.count_at-count.ensures.0 c.if-left-lt4.false c.requires.0 c.if-left-size.false
