-- Checking a query record (SPECIFICATION 8.6): the answer is the first question, in order, whose
-- answer is no. Rests on the format, on the levels' widths and trees, and on the field.
use Rattle.std.specs.Prelude.{ℕ, suc, ◌+◌, ◌*◌, ◌/◌, ◌%◌, ◌^◌, List, [], ◌∷◌, ◌++◌, leb, ltb, eqb, length}
use Rattle.theory_laws.specs.Xor.{◌⊕◌}
use Rattle.theory_laws.specs.Table.{at}
use Rattle.theory_laws.specs.Questions.{pick, Question, ◌asks◌, first_no}
use Rattle.theory_laws.specs.Lists.{part, same}
use Rattle.theory_field.specs.Field.{◌⊗◌}
use Rattle.theory_field.specs.Words.{words}
use Rattle.theory_record.specs.Widths.{level_width, level_depth}
use Rattle.theory_record.specs.Trees.{leads_to}
use Rattle.theory_record.specs.Format.{LevelRecord, level_form, run_count, record_whole, record_items}
use Rattle.theory_record.specs.Scheme.{Scheme}

-- ---- places

-- q of level l, for a query at position p: a and b are at places 2q and 2q + 1 of level l, c is at place q of the next level
unfoldable pub pair_of : ℕ → ℕ → ℕ
pair_of p l = p / 2 ^ suc l

-- the word that a group of this width has where the place's value belongs. (Whether it is the group of that place is another question.)
unfoldable pub value_at : ℕ → ℕ → List ℕ → ℕ
value_at width place values = at values (place % width)

-- the root of level l, of roots lent end to end, level 0 first, 32 bytes each
unfoldable pub root_at : List ℕ → ℕ → List ℕ
root_at roots l = part 32 (32 * l) roots

-- ---- answers

-- 0 and 0: accepted. Else the number of the first question whose answer is no, and the level for 16 to 26
pub record Answer : Type 0 where
  pub number : ℕ
  pub level : ℕ

abbrev pub accepted : Answer
accepted = record { number = 0; level = 0 }

abbrev pub refused : ℕ → Answer
refused q = record { number = q; level = 0 }

-- ---- questions put before the contents

-- 4, for records: n is from 1 to 20 and k at most 4
abbrev pub size_questions : ℕ → ℕ → List Question
size_questions n k = (4 asks leb n 20) ∷ (4 asks leb k 4) ∷ (4 asks leb 1 n) ∷ []

module _ (S : Scheme) where
  open S use {widths as s, base, n, k}

  -- 16 to 26, of which 20 is retired: what is put to level l, of which q is the pair, r the challenge, ra the root and rc the next level's root
  abbrev pub pair_questions : ℕ → ℕ → ℕ → List ℕ → List ℕ → LevelRecord → List Question
  pair_questions l q r ra rc x =
      let w = level_width s n k l in
      let wc = level_width s n k (suc l) in
      (16 asks eqb (length x.a_group) w) ∷
      (17 asks eqb (length x.a_path) (level_depth s n k l)) ∷
      (18 asks same (leads_to S l (2 * q) x.a_group x.a_path) ra) ∷
      (19 asks eqb (value_at w (2 * q) x.a_group) x.a) ∷
      (21 asks eqb (value_at w (2 * q + 1) x.a_group) x.b) ∷
      (22 asks eqb (length x.c_group) wc) ∷
      (23 asks eqb (length x.c_path) (level_depth s n k (suc l))) ∷
      (24 asks same (leads_to S (suc l) q x.c_group x.c_path) rc) ∷
      (25 asks eqb (value_at wc q x.c_group) x.c) ∷
      (26 asks eqb (x.a ⊕ r ⊗ (x.a ⊕ x.b)) x.c) ∷
      []

  -- what is lent to a check: the position, the challenges, two halves each, and the roots
  module _ (position : ℕ) (challenges : List ℕ) (roots : List ℕ) where
    -- the questions put to level l of a record, and the number of the first no
    abbrev pub level_questions : ℕ → LevelRecord → List Question
    level_questions l x = pair_questions l (pair_of position l) (at (words challenges) l) (root_at roots l) (root_at roots (suc l)) x

    unfoldable pub level_number : ℕ → LevelRecord → ℕ
    level_number l x = first_no (level_questions l x)

    -- level by level, from l on
    unfoldable pub check_levels : ℕ → List LevelRecord → Answer
    check_levels l [] = accepted
    check_levels l (x ∷ xs) = pick (eqb (level_number l x) 0) (check_levels (suc l) xs) (record { number = level_number l x; level = l })

    -- what is put before the levels: 4, 5, 7, 11, and to the record's bytes 14 and 15
    abbrev pub query_questions : List ℕ → List Question
    query_questions bytes =
        size_questions n k
        ++ (5 asks eqb (length challenges) (2 * n)) ∷
        (5 asks eqb (length roots) (32 * (n + 1))) ∷
        (7 asks leb (length base) 200) ∷
        (11 asks ltb position (2 ^ (n + k))) ∷
        (14 asks record_whole level_form bytes) ∷
        (15 asks eqb (run_count bytes) n) ∷
        []

    unfoldable pub query_number : List ℕ → ℕ
    query_number bytes = first_no (query_questions bytes)

    -- the answer to a record's bytes
    unfoldable pub check_query : List ℕ → Answer
    check_query bytes = pick (eqb (query_number bytes) 0) (check_levels 0 (record_items level_form n bytes)) (refused (query_number bytes))
