-- The questions put to parts of a level and of its tree (SPECIFICATION 8.4). What is lent comes in by its length: words in halves, two to a
-- word, digests in bytes. Rests on the levels.
use Rattle.std.specs.Prelude.{ℕ, suc, ◌+◌, ◌*◌, ◌/◌, ◌%◌, List, [], ◌∷◌, ◌++◌, eqb, leb, ltb}
use Rattle.theory_laws.specs.Questions.{Question, ◌asks◌, first_no}
use Rattle.theory_record.specs.Widths.{Widths, level_length, level_groups}
use Rattle.theory_record.specs.Query.{size_questions}

-- entries of level l + 1 from entry `first` on, lent level l. 4: there is a level l + 1; 11: the entries end within it
abbrev pub next_part_questions : ℕ → ℕ → ℕ → ℕ → ℕ → ℕ → List Question
next_part_questions n k l first values out =
    size_questions n k
    ++ ((4 asks ltb l n) ∷ (5 asks eqb values (2 * level_length n k l)) ∷ (5 asks eqb (out % 2) 0)
    ∷ (11 asks leb (first + out / 2) (level_length n k (suc l))) ∷ [])

unfoldable pub next_part_number : ℕ → ℕ → ℕ → ℕ → ℕ → ℕ → ℕ
next_part_number n k l first values out = first_no (next_part_questions n k l first values out)

-- leaves of level l's tree from group `first` on, lent level l. 4: level l is one of the levels; 7: a base domain is at most 200 bytes;
-- 11: the groups end within the level's
abbrev pub level_leaves_questions : Widths → ℕ → ℕ → ℕ → ℕ → ℕ → ℕ → ℕ → List Question
level_leaves_questions s n k l base first values out =
    size_questions n k
    ++ ((4 asks leb l n) ∷ (5 asks eqb values (2 * level_length n k l)) ∷ (5 asks eqb (out % 32) 0) ∷ (7 asks leb base 200)
    ∷ (11 asks leb (first + out / 32) (level_groups s n k l)) ∷ [])

unfoldable pub level_leaves_number : Widths → ℕ → ℕ → ℕ → ℕ → ℕ → ℕ → ℕ → ℕ
level_leaves_number s n k l base first values out = first_no (level_leaves_questions s n k l base first values out)

-- parents in level l's tree, lent any number of pairs of digests
abbrev pub level_parents_questions : ℕ → ℕ → ℕ → ℕ → ℕ → ℕ → List Question
level_parents_questions n k l base children out =
    size_questions n k ++ ((4 asks leb l n) ∷ (5 asks eqb (children % 64) 0) ∷ (5 asks eqb out (children / 2)) ∷ (7 asks leb base 200) ∷ [])

unfoldable pub level_parents_number : ℕ → ℕ → ℕ → ℕ → ℕ → ℕ → ℕ
level_parents_number n k l base children out = first_no (level_parents_questions n k l base children out)
