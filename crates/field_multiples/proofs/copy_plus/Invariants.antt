-- `tables::copy_plus` meets its contract. The loop's invariant: k words are copied.
use Rattle.theory_field.specs.Words.{words}
use Rattle.field_gf128.specs.Word.{word}
use Rattle.field_multiples.specs.helpers.Rows.{Copied}
use Rattle.field_multiples.proofs.copy_plus.Given as goal

abbrev pub invariant-loop-k : goal.invariant-loop-k
invariant-loop-k l = Copied l.from l.n l.k (word l.d) (words l.initial.t) (words l.t)
