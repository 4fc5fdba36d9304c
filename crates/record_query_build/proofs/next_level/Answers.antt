-- `record_query_build::next_level` meets its contract.
use Rattle.record_query_build.proofs.Sizes.{next_fits, next-first, next-tree}
use borrow.Author.Rules.{rules}
use Rattle.record_query_build.proofs.next_level.Goals as goal

pub overflow_add-words_at : goal.overflow_add-words_at
overflow_add-words_at c =
    let h = next_fits _ _ _ _ _ c.requires.0 c.requires.1 c.requires.2 in
    search rules

pub overflow_mul-tree_at : goal.overflow_mul-tree_at
overflow_mul-tree_at c =
    let h = next_fits _ _ _ _ _ c.requires.0 c.requires.1 c.requires.2 in
    search rules

pub overflow_sub-tree_at : goal.overflow_sub-tree_at
overflow_sub-tree_at c =
    let h = next_fits _ _ _ _ _ c.requires.0 c.requires.1 c.requires.2 in
    search rules

pub overflow_mul-tree_at-2 : goal.overflow_mul-tree_at-2
overflow_mul-tree_at-2 c =
    let h = next_fits _ _ _ _ _ c.requires.0 c.requires.1 c.requires.2 in
    search rules

pub overflow_add-tree_at : goal.overflow_add-tree_at
overflow_add-tree_at c =
    let h = next_fits _ _ _ _ _ c.requires.0 c.requires.1 c.requires.2 in
    search rules

pub lent_level-requires : goal.lent_level-requires
lent_level-requires c =
    let p = c.requires in
    (search rules, search rules, next-first _ _ _ _ _ p.0 p.1 p.2 _ c.level_length.ensures, next-tree _ _ _ _ _ p.0 p.1 p.2)
