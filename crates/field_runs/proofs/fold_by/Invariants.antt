-- `field_runs::fold_by` meets its contract. The loop's invariant: q is the first pair of a run, and the words below it are those of the
-- fold.
use mathlib.Core.Path.{◌≡◌}
use Prim.Native.Nat.{◌-◌, ◌≤◌}
use lib.ListN.{length}
use Rattle.theory_laws.specs.Table.{at}
use Rattle.theory_laws.proofs.Updates.{updated}
use Rattle.theory_field.specs.Words.{words}
use Rattle.field_gf128.specs.Word.{word}
use Rattle.theory_multilinear.specs.Fold.{fold_at}
use Rattle.field_runs.proofs.Pairs.{First}
use Rattle.field_runs.proofs.fold_by.Given as goal

abbrev pub invariant-loop-q : goal.invariant-loop-q
invariant-loop-q g l =
    (l.q ≤ l.n) × First l.i l.q × (length l.out ≡ length l.initial.out) × (words l.out ≡ updated l.q (λ k w. fold_at l.i (word l.by.factor) (at (words l.src)) k) (words l.initial.out))

abbrev pub decreases-loop-q : goal.decreases-loop-q
decreases-loop-q g l = l.n - l.q
