-- The answer of a check, as the number and level of SPECIFICATION 8.6.
use Rattle.std.specs.Prelude.{Result, Ok, Err}
use Rattle.theory_laws.specs.Refusals.{number_of}
use Rattle.theory_laws.specs.declared.Refusal.{Refusal}
use Rattle.theory_record.specs.Query.{Answer, accepted}
use Rattle.record_query_check.specs.declared.Rejection.{Rejection}

-- why a record is refused at a question that is put to no level
abbrev pub of_no_level : Refusal → Rejection
of_no_level e = record { refusal = e; level = 0 }

abbrev pub answer : {A : Type 0} → Result A Rejection → Answer
answer (Ok _) = accepted
answer (Err r) = record { number = number_of r.refusal; level = r.level }
