-- What `fold_levels` answers and leaves (SPECIFICATION 6.6, 8.4): all levels of a codeword by its challenges, their trees and their roots, each
-- end to end, level 0 first. What is lent comes in by its length: words in halves, two to a word, trees and roots in bytes. Rests on the levels.
use Rattle.std.specs.Prelude.{ℕ, suc, ◌+◌, ◌*◌, List, [], ◌∷◌, ◌++◌, eqb, leb, length}
use Rattle.theory_laws.specs.Questions.{Question, ◌asks◌, first_no}
use Rattle.theory_field.specs.Words.{words}
use Rattle.theory_multilinear.specs.Levels.{level}
use Rattle.theory_record.specs.Lent.{Slice, MutSlice}
use Rattle.theory_record.specs.declared.Trees.{Trees}
use Rattle.theory_record.specs.Widths.{Widths, widths_of, level_length}
use Rattle.theory_record.specs.Query.{size_questions}
use Rattle.theory_record.specs.Build.{levels_length, tree_start, level_values}

-- 5 of the challenges, of all levels, of room for a fold, of room for all trees and for the roots; 7: a base domain is at most 200 bytes
abbrev pub lent_questions : Widths → ℕ → ℕ → ℕ → ℕ → ℕ → ℕ → ℕ → ℕ → List Question
lent_questions s n k base challenges levels half trees roots =
    (5 asks eqb challenges (2 * n)) ∷
    (5 asks eqb levels (2 * levels_length n k)) ∷
    (5 asks eqb half (2 * level_length n k 1)) ∷
    (5 asks eqb trees (32 * tree_start s n k (suc n))) ∷
    (5 asks eqb roots (32 * (n + 1))) ∷
    (7 asks leb base 200) ∷
    []

-- 4, and these
unfoldable pub fold_levels_number : Widths → ℕ → ℕ → ℕ → ℕ → ℕ → ℕ → ℕ → ℕ → ℕ
fold_levels_number s n k base challenges levels half trees roots = first_no (size_questions n k ++ lent_questions s n k base challenges levels half trees roots)

-- level l of the codeword that is lent as level 0, by the challenges: the codeword folded l times at variable 0
abbrev pub folded_level : ℕ → ℕ → List ℕ → List ℕ → ℕ → List ℕ
folded_level n k challenges levels l = level (level_values n k (words levels) 0) (words challenges) l

-- ---- of the slices that a function is lent, at its entry

module _ (how : Trees) (n k : ℕ) (base challenges : Slice) (levels half trees roots : MutSlice) where
  -- the number that `fold_levels` answers
  abbrev pub fold_levels_lent : ℕ
  fold_levels_lent =
      fold_levels_number (widths_of how.set) n k (length base.entry.now) (length challenges.entry.now) (length levels.entry.now)
      (length half.entry.now) (length trees.entry.now) (length roots.entry.now)

abbrev pub folded_lent : ℕ → ℕ → Slice → MutSlice → ℕ → List ℕ
folded_lent n k challenges levels = folded_level n k challenges.entry.now levels.entry.now
