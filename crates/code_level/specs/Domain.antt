-- What the entries on the domain of a level answer (SPECIFICATION 8.4). Rests on the domain.
use Rattle.std.specs.Prelude.{ℕ, Result, Ok, Err, List, [], ◌∷◌, eqb, leb, length}
use Rattle.theory_laws.specs.Questions.{Question, ◌asks◌, first_no, on_done}
use Rattle.theory_laws.specs.Refusals.{number_of}
use Rattle.theory_laws.specs.declared.Refusal.{Refusal}
use Rattle.theory_record.specs.Domain.{level_domain}

-- the domain of level l, lent a buffer of `out` bytes: 4, a level is at most 20; 5; 7, a base domain is at most 200 bytes
abbrev pub domain_questions : List ℕ → ℕ → ℕ → List Question
domain_questions base l out = (4 asks leb l 20) ∷ (5 asks eqb out (length (level_domain base l))) ∷ (7 asks leb (length base) 200) ∷ []

unfoldable pub domain_number : List ℕ → ℕ → ℕ → ℕ
domain_number base l out = first_no (domain_questions base l out)

-- its length: 4 and 7
abbrev pub length_questions : List ℕ → ℕ → List Question
length_questions base l = (4 asks leb l 20) ∷ (7 asks leb (length base) 200) ∷ []

unfoldable pub length_number : List ℕ → ℕ → ℕ
length_number base l = first_no (length_questions base l)

-- the number, and a length, 0 where it is refused
pub record DomainLength : Type 0 where
  pub number : ℕ
  pub length : ℕ

abbrev pub domain_length_of : List ℕ → ℕ → DomainLength
domain_length_of base l =
    on_done (length_number base l) (record { number = 0; length = length (level_domain base l) }) (record { number = length_number base l; length = 0 })

-- the answer of code, so read
abbrev pub length_answer : Result ℕ Refusal → DomainLength
length_answer (Ok m) = record { number = 0; length = m }
length_answer (Err e) = record { number = number_of e; length = 0 }
