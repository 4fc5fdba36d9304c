-- `ring_indicator::join_parts` meets its contract: the words so far are joined.
use mathlib.Core.Path.{◌≡◌}
use Rattle.theory_laws.specs.Table.{at}
use Rattle.theory_laws.proofs.Updates.{updated}
use Rattle.theory_field.specs.Words.{words}
use Rattle.field_gf128.specs.Word.{word}
use Rattle.ring_indicator.specs.helpers.Steps.{join_parts}
use Rattle.ring_indicator.proofs.join_parts.Given as goal

abbrev pub invariant-loop-k : goal.invariant-loop-k
invariant-loop-k l =
    words l.t ≡ updated l.k (join_parts (word l.z) (at (words l.mixed))) (words l.initial.t)
