-- `claim_fold_calls::fold_calls` meets its contract: where the calls stand after the first i.
use Prim.Native.Nat.{◌-◌, ◌/◌}
use mathlib.Core.Path.{◌≡◌}
use lib.ListN.{length}
use Rattle.theory_field.specs.Words.{words}
use Rattle.theory_record.specs.Build.{level_values}
use Rattle.claim_fold_calls.specs.Lent.{calls_from, lent_calls}
use Rattle.claim_fold_calls.specs.helpers.Laid.{Reached}
use Rattle.claim_fold_calls.proofs.fold_calls.Given as goal

abbrev pub invariant-loop-i : goal.invariant-loop-i
invariant-loop-i l =
    (length l.half ≡ length l.initial.half)
    × Reached l.n l.k (record { values = level_values l.n l.k (words l.initial.levels) 0; coordinates = l.initial.coordinates }) (words l.initial.levels) (words l.initial.kept)
    (lent_calls l.calls (words l.challenges)) (calls_from l.calls (words l.challenges) l.i (length l.calls / 5 - l.i)) l.at.done l.at.from l.levels l.coordinates l.kept
