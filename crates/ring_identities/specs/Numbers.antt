-- The questions put to `extension_sides` and `fold_sides` (SPECIFICATION 8.4), given the lent lengths, two u64 a word, and what both answer.
use Rattle.std.specs.Prelude.{ℕ, ◌*◌, ◌^◌, List, [], ◌∷◌, Result, Ok, Err, eqb, leb}
use Rattle.theory_laws.specs.Questions.{Question, ◌asks◌, first_no}
use Rattle.theory_laws.specs.Refusals.{number_of}
use Rattle.theory_laws.specs.declared.Refusal.{Refusal}
use Rattle.field_gf128.specs.declared.Word.{Word}
use Rattle.ring_identities.specs.declared.Sides.{Sides}

-- the packed words, the point of n coordinates and the room for a table
abbrev pub sides_questions : ℕ → ℕ → ℕ → ℕ → List Question
sides_questions n packed point table =
    ((4 asks leb n 20) ∷
    (5 asks eqb packed (2 * 2 ^ n)) ∷
    (5 asks eqb point (2 * n)) ∷
    (5 asks eqb table (2 * 2 ^ n)) ∷
    [])

unfoldable pub sides_number : ℕ → ℕ → ℕ → ℕ → ℕ
sides_number n packed point table = first_no (sides_questions n packed point table)

-- both sides beside the number of the question that refused; refused, they are the word 0 twice
pub record Sided : Type 0 where
  pub number : ℕ
  pub left : Word
  pub right : Word

-- the answer of code, so read
abbrev pub sided : Result Sides Refusal → Sided
sided (Ok s) = record { number = 0; left = s.left; right = s.right }
sided (Err e) = record { number = number_of e; left = record { lo = 0; hi = 0 }; right = record { lo = 0; hi = 0 } }
