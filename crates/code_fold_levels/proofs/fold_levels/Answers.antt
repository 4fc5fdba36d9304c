-- `code_fold_levels::fold_levels` meets its contract.
use mathlib.Core.Path.{refl, ◌∙◌}
use Rattle.code_fold_levels.proofs.Sizes.{sizes-given, fold-room, tree-room}
use Rattle.code_fold_levels.proofs.Folding.{trees_same, roots_same}
use borrow.Author.Rules.{rules}
use Rattle.code_fold_levels.proofs.fold_levels.Goals as goal

pub fold_all-requires : goal.fold_all-requires
fold_all-requires c =
    let h = sizes-given c.in_ok-questions.ensures refl in
    (fold-room h, h.challenges_long)

pub all_trees-requires : goal.all_trees-requires
all_trees-requires c =
    let h = sizes-given c.in_ok-questions.ensures refl in
    (tree-room h _ (search rules), h.roots_long)

pub returns : goal.returns
returns c =
    let h = sizes-given c.in_ok-questions.ensures refl in
    let levels = c.fold_all.ensures.levels_after in record { value = c.in_ok-questions.ensures; levels_after = levels; half_after = c.fold_all.ensures.half_after; trees_after = c.all_trees.ensures.trees_after ∙ trees_same _ _ _ _ h.levels_long _ levels _ refl; roots_after = c.all_trees.ensures.roots_after ∙ roots_same _ _ _ _ h.levels_long _ levels _ refl }
