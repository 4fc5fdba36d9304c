-- The questions put to the equality table of a point (SPECIFICATION 8.4). The table itself is `eq_table` of theory_multilinear.
use Rattle.std.specs.Prelude.{ℕ, ◌*◌, ◌^◌, List, [], ◌∷◌, eqb, leb}
use Rattle.theory_laws.specs.Questions.{Question, ◌asks◌, first_no}

-- n coordinates, and the lengths of the lent point and of the lent table, two u64 a word
abbrev pub eq_questions : ℕ → ℕ → ℕ → List Question
eq_questions n point out = (4 asks leb n 20) ∷ (5 asks eqb point (2 * n)) ∷ (5 asks eqb out (2 * 2 ^ n)) ∷ []

unfoldable pub eq_number : ℕ → ℕ → ℕ → ℕ
eq_number n point out = first_no (eq_questions n point out)
