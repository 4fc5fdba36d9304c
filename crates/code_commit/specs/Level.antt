-- The questions put to the tree of a level (SPECIFICATION 8.4). What is lent comes in by its length: words in halves, two to a word, trees in
-- bytes. Rests on the levels.
use Rattle.std.specs.Prelude.{ℕ, ◌*◌, List, [], ◌∷◌, ◌++◌, eqb, leb}
use Rattle.theory_laws.specs.Questions.{Question, ◌asks◌, first_no}
use Rattle.theory_record.specs.Widths.{Widths, level_length, tree_length}
use Rattle.theory_record.specs.Query.{size_questions}

-- 4: level l is one of the levels; 5 of its values and of room for its tree; 7: a base domain is at most 200 bytes
abbrev pub level_questions : Widths → ℕ → ℕ → ℕ → ℕ → ℕ → ℕ → List Question
level_questions s n k l base values tree =
    (4 asks leb l n) ∷
    (5 asks eqb values (2 * level_length n k l)) ∷
    (5 asks eqb tree (32 * tree_length s n k l)) ∷
    (7 asks leb base 200) ∷
    []

unfoldable pub level_tree_number : Widths → ℕ → ℕ → ℕ → ℕ → ℕ → ℕ → ℕ
level_tree_number s n k l base values tree = first_no (size_questions n k ++ level_questions s n k l base values tree)
