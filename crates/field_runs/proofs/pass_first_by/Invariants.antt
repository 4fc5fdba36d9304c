-- `field_runs::pass_first_by` meets its contract. The loop's invariant: the words of the first q pairs are done.
use mathlib.Core.Path.{◌≡◌}
use Prim.Native.Nat.{◌+◌}
use Rattle.theory_laws.specs.Table.{at}
use Rattle.theory_laws.proofs.Updates.{updated}
use Rattle.theory_field.specs.Words.{words}
use Rattle.field_gf128.specs.Word.{word}
use Rattle.theory_multilinear.proofs.Passes.{pass}
use Rattle.field_runs.proofs.pass_first_by.Given as goal

abbrev pub invariant-loop-q : goal.invariant-loop-q
invariant-loop-q g l =
    (words l.out ≡ updated (l.q + l.q) (λ k w. pass 0 (word l.by.factor) (at (words l.src)) k) (words l.initial.out))
