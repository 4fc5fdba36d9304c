-- The questions that a whole run puts, in the order of SPECIFICATION 8.4. What is lent comes in by its length: words in halves, two to a word.
use Rattle.std.specs.Prelude.{ℕ, suc, ◌+◌, ◌*◌, ◌/◌, ◌^◌, List, [], ◌∷◌, ◌++◌, eqb, leb, ltb}
use Rattle.theory_laws.specs.Questions.{Question, ◌asks◌, first_no}
use Rattle.theory_code.specs.Questions.{lent}
use Rattle.theory_record.specs.Widths.{Widths, level_length}
use Rattle.theory_record.specs.Sizes.{query_size, tail_size}
use Rattle.theory_record.specs.Query.{size_questions}
use Rattle.theory_record.specs.Build.{levels_length, tree_start}
use Rattle.theory_compare.specs.Compare.{message_buffer}

-- 5: a table of 2^n words; five numbers and a challenge for each call
abbrev pub input_questions : ℕ → ℕ → ℕ → ℕ → List Question
input_questions n table calls challenges =
    lent table (2 ^ n) ∷
    (5 asks eqb calls (5 * (calls / 5))) ∷
    lent challenges (calls / 5) ∷
    []

-- 5: room for the gammas, all levels, the list of coordinates, a fold of level 0, n challenges, all trees and all roots
abbrev pub deposit_questions : Widths → ℕ → ℕ → ℕ → ℕ → ℕ → ℕ → ℕ → ℕ → ℕ → List Question
deposit_questions s n k gammas levels coordinates half kept trees roots =
    lent gammas (k * n) ∷
    lent levels (levels_length n k) ∷
    (5 asks eqb coordinates n) ∷
    (5 asks eqb half (level_length n k 0)) ∷
    lent kept n ∷
    (5 asks eqb trees (32 * tree_start s n k (suc n))) ∷
    (5 asks eqb roots (32 * (n + 1))) ∷
    []

-- 5: room for a query record, a tail record and two messages
abbrev pub record_questions : Widths → ℕ → ℕ → ℕ → ℕ → ℕ → ℕ → List Question
record_questions s n k query tail one two =
    (5 asks eqb query (query_size s n k)) ∷
    (5 asks eqb tail (tail_size s n k)) ∷
    (5 asks eqb one message_buffer) ∷
    (5 asks eqb two message_buffer) ∷
    []

-- 7 and 11
abbrev pub last_questions : ℕ → ℕ → ℕ → ℕ → List Question
last_questions n k base position =
    (7 asks leb base 200) ∷
    (11 asks ltb position (2 ^ (n + k))) ∷
    []

-- all of them, after 4
module _ (s : Widths) (n k position base table calls challenges gammas levels coordinates half kept trees roots query tail one two : ℕ) where
  abbrev pub run_questions : List Question
  run_questions =
      size_questions n k
      ++ input_questions n table calls challenges
      ++ deposit_questions s n k gammas levels coordinates half kept trees roots
      ++ record_questions s n k query tail one two
      ++ last_questions n k base position

  unfoldable pub run_number : ℕ
  run_number = first_no run_questions
