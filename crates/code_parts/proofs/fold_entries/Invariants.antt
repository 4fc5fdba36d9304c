-- `code_parts::fold_entries` meets its contract. The loop's invariant: the first v words are those of the fold.
use mathlib.Core.Path.{◌≡◌}
use Prim.Native.Nat.{◌+◌}
use lib.ListN.{length}
use Rattle.theory_laws.specs.Table.{at}
use Rattle.theory_laws.proofs.Updates.{updated}
use Rattle.theory_field.specs.Words.{words}
use Rattle.field_gf128.specs.Word.{word}
use Rattle.theory_multilinear.specs.Fold.{fold_at}
use Rattle.code_parts.proofs.fold_entries.Given as goal

abbrev pub invariant-loop-v : goal.invariant-loop-v
invariant-loop-v g l =
    (length l.out ≡ length l.initial.out)
    × (words l.out ≡ updated l.v (λ k w. fold_at l.var (word l.by.factor) (at (words l.src)) (l.first + k)) (words l.initial.out))
