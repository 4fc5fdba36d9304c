-- The questions put to `eval_at` (SPECIFICATION 8.4), given the lent lengths, two u64 a word.
use Rattle.std.specs.Prelude.{ℕ, ◌*◌, List, [], ◌∷◌, eqb, leb}
use Rattle.theory_laws.specs.Questions.{Question, ◌asks◌, first_no}

-- the equality point and the point, of n coordinates each
abbrev pub eval_questions : ℕ → ℕ → ℕ → List Question
eval_questions n z point = ((4 asks leb n 20) ∷ (5 asks eqb z (2 * n)) ∷ (5 asks eqb point (2 * n)) ∷ [])

unfoldable pub eval_number : ℕ → ℕ → ℕ → ℕ
eval_number n z point = first_no (eval_questions n z point)
