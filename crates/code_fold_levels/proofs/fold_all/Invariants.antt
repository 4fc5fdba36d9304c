-- `code_fold_levels::fold_all` meets its contract.
use mathlib.Core.Path.{◌≡◌}
use lib.ListN.{length}
use Rattle.code_fold_levels.specs.helpers.Folded.{Folded}
use Rattle.code_fold_levels.proofs.fold_all.Given as goal

abbrev pub invariant-loop-l : goal.invariant-loop-l
invariant-loop-l l =
    (length l.half ≡ length l.initial.half) × (Folded l.n l.k l.challenges l.initial.levels l.l l.from l.levels)
