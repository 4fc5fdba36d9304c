-- `field_runs::eq_double_by` meets its contract. The loop's invariant: the first v entries are doubled.
use Rattle.theory_field.specs.Words.{words}
use Rattle.field_gf128.specs.Word.{word}
use Rattle.field_runs.proofs.Doubling.{Doubling}
use Rattle.field_runs.proofs.eq_double_by.Given as goal

abbrev pub invariant-loop-v : goal.invariant-loop-v
invariant-loop-v g l = Doubling l.n (word l.by.factor) l.v (words l.initial.a) (words l.a)
