-- `code_level_trees::level_trees` meets its contract: the trees and roots below l are made.
use Rattle.theory_field.specs.Words.{words}
use Rattle.theory_record.specs.Build.{level_values}
use Rattle.code_level_trees.specs.helpers.Grown.{Grown}
use Rattle.code_level_trees.proofs.level_trees.Given as goal

abbrev pub invariant-loop-l : goal.invariant-loop-l
invariant-loop-l l =
    Grown l.deposit.how l.deposit.base.now l.n l.k (level_values l.n l.k (words l.levels)) l.l l.from l.at l.place l.trees l.roots
