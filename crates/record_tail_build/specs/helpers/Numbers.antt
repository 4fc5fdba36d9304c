-- The number of a tail record's building, by the lengths of what is lent.
use Rattle.std.specs.Prelude.{ℕ, ◌*◌, List, [], ◌∷◌, ◌++◌, eqb}
use Rattle.theory_laws.specs.Questions.{Question, ◌asks◌, first_no}
use Rattle.theory_record.specs.Widths.{Widths, level_length, tree_length}
use Rattle.theory_record.specs.Sizes.{tail_size}
use Rattle.theory_record.specs.Query.{size_questions}

-- 5, of the level, the tree and the record's buffer
abbrev pub lengths : Widths → ℕ → ℕ → ℕ → ℕ → ℕ → List Question
lengths s n k level tree out =
    (5 asks eqb level (2 * level_length n k n)) ∷
    (5 asks eqb tree (32 * tree_length s n k n)) ∷
    (5 asks eqb out (tail_size s n k)) ∷
    []

unfoldable pub build_number : Widths → ℕ → ℕ → ℕ → ℕ → ℕ → ℕ
build_number s n k level tree out = first_no (size_questions n k ++ lengths s n k level tree out)
