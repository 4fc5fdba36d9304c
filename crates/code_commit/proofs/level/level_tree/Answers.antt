-- `code_commit::level::level_tree` meets its contract.
use mathlib.Core.Path.{refl}
use Rattle.code_commit.proofs.Sizes.{level-allowed}
use Rattle.code_commit.proofs.level.level_tree.Goals as goal

pub build_level-requires : goal.build_level-requires
build_level-requires c =
    level-allowed _ _ _ _ _ _ _ c.in_ok-questions.ensures refl

pub returns : goal.returns
returns c =
    record { value = c.in_ok-questions.ensures; tree_after = c.build_level.ensures }
