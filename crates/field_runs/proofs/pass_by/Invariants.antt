-- `field_runs::pass_by` meets its contract. The loop's invariant: q is the first pair of a run, and the pairs below it are done, as
-- `theory_multilinear` has it for any loop over pairs.
use mathlib.Core.Path.{◌≡◌}
use Prim.Native.Nat.{◌-◌, ◌≤◌}
use lib.ListN.{length}
use Rattle.theory_laws.specs.Table.{at}
use Rattle.theory_field.specs.Words.{words}
use Rattle.field_gf128.specs.Word.{word}
use Rattle.theory_multilinear.proofs.PassLoop.{Done}
use Rattle.field_runs.specs.Runs.{Paired}
use Rattle.field_runs.proofs.Pairs.{First}
use Rattle.field_runs.proofs.pass_by.Given as goal

abbrev pub invariant-loop-q : goal.invariant-loop-q
invariant-loop-q g l =
    (l.q ≤ l.n) × First l.i l.q × (length l.s ≡ length l.initial.s) × ((p : Paired l.i (length l.initial.s)) → Done p.m l.i (word l.by.factor) (at (words l.initial.s)) l.q (words l.s))

abbrev pub decreases-loop-q : goal.decreases-loop-q
decreases-loop-q g l = l.n - l.q
