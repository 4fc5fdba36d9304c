-- The number that each entry answers: its first question, in the order of SPECIFICATION 8.4, whose answer is no; 0 where there is none.
use Rattle.std.specs.Prelude.{ℕ, ◌∷◌}
use Rattle.theory_laws.specs.Questions.{first_no}
use Rattle.theory_merkle.specs.Questions.{domain_fits, shape, leaf_questions, node_questions, build_questions, open_questions, root_questions}

-- questions 8, 9 and 10
unfoldable pub shape_number : ℕ → ℕ → ℕ
shape_number count width = first_no (shape count width)

-- questions 7 to 10
unfoldable pub tree_number : ℕ → ℕ → ℕ → ℕ
tree_number domain count width = first_no (domain_fits domain ∷ shape count width)

unfoldable pub leaf_number : ℕ → ℕ → ℕ → ℕ → ℕ → ℕ
leaf_number domain count width place values = first_no (leaf_questions domain count width place values)

unfoldable pub node_number : ℕ → ℕ → ℕ → ℕ
node_number domain l r = first_no (node_questions domain l r)

unfoldable pub build_number : ℕ → ℕ → ℕ → ℕ → ℕ → ℕ
build_number domain count width values tree = first_no (build_questions domain count width values tree)

unfoldable pub open_number : ℕ → ℕ → ℕ → ℕ → ℕ → ℕ
open_number count width place tree path = first_no (open_questions count width place tree path)

unfoldable pub root_number : ℕ → ℕ → ℕ → ℕ → ℕ → ℕ → ℕ
root_number domain count width place values path = first_no (root_questions domain count width place values path)
