-- What inverting a word answers: a number and a word.
use Rattle.std.specs.Prelude.{ℕ, not, List, [], ◌∷◌, eqb, Result, Ok, Err}
use Rattle.theory_laws.specs.Questions.{Question, ◌asks◌, first_no, on_done}
use Rattle.theory_field.specs.Field.{inverse}
use Rattle.theory_laws.specs.Refusals.{number_of}
use Rattle.theory_laws.specs.declared.Refusal.{Refusal}
use Rattle.field_gf128.specs.declared.Word.{Word}
use Rattle.field_gf128.specs.Word.{word}

-- the code's answer: 0 and the word, or the number of the refusal and 0
unfoldable pub answer : Result Word Refusal → ℕ × ℕ
answer (Ok w) = (0, word w)
answer (Err e) = (number_of e, 0)

-- question 1 (SPECIFICATION 8.2): is the word to invert other than 0?
abbrev pub inverse_questions : ℕ → List Question
inverse_questions a = (1 asks not (eqb a 0)) ∷ []

unfoldable pub refusal : ℕ → ℕ
refusal a = first_no (inverse_questions a)

-- 0 and the inverse; or the number of the refusal and 0
unfoldable pub inverse_of : ℕ → ℕ × ℕ
inverse_of a = (refusal a, on_done (refusal a) (inverse a) 0)
