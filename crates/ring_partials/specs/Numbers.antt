-- The questions put to `partial_evals` and `fold_partials` (SPECIFICATION 8.4), given the lent lengths, two u64 a word.
use Rattle.std.specs.Prelude.{ℕ, ◌*◌, ◌^◌, List, [], ◌∷◌, eqb, leb}
use Rattle.theory_laws.specs.Questions.{Question, ◌asks◌, first_no}

-- the packed words, the table and the output of 128 words
abbrev pub partial_questions : ℕ → ℕ → ℕ → ℕ → List Question
partial_questions n packed eq out =
    ((4 asks leb n 20) ∷
    (5 asks eqb packed (2 * 2 ^ n)) ∷
    (5 asks eqb eq (2 * 2 ^ n)) ∷
    (5 asks eqb out 256) ∷
    [])

unfoldable pub partial_number : ℕ → ℕ → ℕ → ℕ → ℕ
partial_number n packed eq out = first_no (partial_questions n packed eq out)

-- the 128 partials
abbrev pub fold_questions : ℕ → List Question
fold_questions s = (5 asks eqb s 256) ∷ []

unfoldable pub fold_number : ℕ → ℕ
fold_number s = first_no (fold_questions s)
