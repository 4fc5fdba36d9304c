-- The questions that the entries put which make a part of the code's work, in the order of SPECIFICATION 8.4. What is lent comes in by its length,
-- in halves: two to a word. The claim rests on the whole's questions and on none of these.
use Rattle.std.specs.Prelude.{ℕ, ◌+◌, ◌-◌, ◌*◌, ◌/◌, ◌%◌, ◌^◌, List, [], ◌∷◌, eqb, leb, ltb}
use Rattle.theory_laws.specs.Questions.{Question, ◌asks◌, first_no}
use Rattle.theory_code.specs.Questions.{sized, lent}

-- a block of the codeword, lent the table, the gammas and room for a block. 11: its number eps is below 2^k
abbrev pub block_questions : ℕ → ℕ → ℕ → ℕ → ℕ → ℕ → List Question
block_questions n k eps table gammas out =
    sized n k (lent table (2 ^ n) ∷ lent gammas (k * n) ∷ lent out (2 ^ n) ∷ (11 asks ltb eps (2 ^ k)) ∷ [])

unfoldable pub block_number : ℕ → ℕ → ℕ → ℕ → ℕ → ℕ → ℕ
block_number n k eps table gammas out = first_no (block_questions n k eps table gammas out)

-- half a block, lent the table, the gammas and room for it. 4: n is at least 1 too. 11: its number is below 2^(k + 1)
abbrev pub half_questions : ℕ → ℕ → ℕ → ℕ → ℕ → ℕ → List Question
half_questions n k half table gammas out =
    (4 asks leb 1 n) ∷ sized n k (lent table (2 ^ n) ∷ lent gammas (k * n) ∷ lent out (2 ^ (n - 1)) ∷ (11 asks ltb half (2 ^ (k + 1))) ∷ [])

unfoldable pub half_number : ℕ → ℕ → ℕ → ℕ → ℕ → ℕ → ℕ
half_number n k half table gammas out = first_no (half_questions n k half table gammas out)

-- a part of a fold, from entry `first` on, lent the codeword and room for any number of words. 11: the part ends within the fold
abbrev pub fold_part_questions : ℕ → ℕ → ℕ → ℕ → ℕ → ℕ → List Question
fold_part_questions n k var first src out =
    sized n k (lent src (2 ^ (n + k)) ∷ (5 asks eqb (out % 2) 0) ∷ (6 asks ltb var n) ∷ (11 asks leb (first + out / 2) (2 ^ (n + k) / 2)) ∷ [])

unfoldable pub fold_part_number : ℕ → ℕ → ℕ → ℕ → ℕ → ℕ → ℕ
fold_part_number n k var first src out = first_no (fold_part_questions n k var first src out)
