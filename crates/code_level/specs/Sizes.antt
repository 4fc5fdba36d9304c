-- The number of question 4 where n is at least 1 (SPECIFICATION 8.4): the first of its parts that says no. Rests on the questions put to a query
-- record.
use Rattle.std.specs.Prelude.{ℕ}
use Rattle.theory_laws.specs.Questions.{first_no}
use Rattle.theory_record.specs.Query.{size_questions}

unfoldable pub size_number : ℕ → ℕ → ℕ
size_number n k = first_no (size_questions n k)
