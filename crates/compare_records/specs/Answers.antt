-- The answer of the code as that of comparing. Rests on comparing.
use Rattle.std.specs.Prelude.{Result, Ok, Err}
use Rattle.theory_laws.specs.Refusals.{number_of}
use Rattle.theory_laws.specs.declared.Refusal.{Refusal}
use Rattle.theory_compare.specs.Compare.{Comparison}
use Rattle.compare_records.specs.declared.Messages.{Messages}

abbrev pub comparison : Result Messages Refusal → Comparison
comparison (Ok m) = record { number = 0; first = m.first; second = m.second }
comparison (Err e) = record { number = number_of e; first = 0; second = 0 }
