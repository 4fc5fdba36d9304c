-- The number of a query record's building, by the lengths of what is lent.
use Rattle.std.specs.Prelude.{ℕ, suc, ◌+◌, ◌*◌, ◌^◌, List, [], ◌∷◌, ◌++◌, ltb, eqb}
use Rattle.theory_laws.specs.Questions.{Question, ◌asks◌, first_no}
use Rattle.theory_record.specs.Widths.{Widths}
use Rattle.theory_record.specs.Sizes.{query_size}
use Rattle.theory_record.specs.Query.{size_questions}
use Rattle.theory_record.specs.Build.{levels_length, tree_start}

-- 5, of the levels, the trees and the record's buffer, and 11
abbrev pub lengths : Widths → ℕ → ℕ → ℕ → ℕ → ℕ → ℕ → List Question
lengths s n k levels trees out position =
    (5 asks eqb levels (2 * levels_length n k)) ∷
    (5 asks eqb trees (32 * tree_start s n k (suc n))) ∷
    (5 asks eqb out (query_size s n k)) ∷
    (11 asks ltb position (2 ^ (n + k))) ∷
    []

unfoldable pub build_number : Widths → ℕ → ℕ → ℕ → ℕ → ℕ → ℕ → ℕ
build_number s n k levels trees out position = first_no (size_questions n k ++ lengths s n k levels trees out position)
