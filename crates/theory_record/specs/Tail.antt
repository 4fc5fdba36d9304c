-- Checking a tail record (SPECIFICATION 8.7): the number of the first question, in order, whose answer is no. Rests on
-- the format, and on the last level's width and tree.
use Rattle.std.specs.Prelude.{ℕ, suc, ◌*◌, List, [], ◌∷◌, ◌++◌, leb, eqb, length}
use Rattle.theory_laws.specs.Table.{at}
use Rattle.theory_laws.specs.Questions.{Question, ◌asks◌, first_no}
use Rattle.theory_laws.specs.Lists.{same}
use Rattle.theory_record.specs.Widths.{level_width, level_groups, level_depth}
use Rattle.theory_record.specs.Format.{TailGroup, tail_form, run_count, record_whole, record_items}
use Rattle.theory_record.specs.Trees.{leads_to}
use Rattle.theory_record.specs.Query.{size_questions}
use Rattle.theory_record.specs.Scheme.{Scheme}

-- the first value of the first group
unfoldable pub first_value : List TailGroup → ℕ
first_value [] = 0
first_value (x ∷ xs) = at x.values 0

-- lent: the last level's root, 32 bytes, and the terminal claim
module _ (S : Scheme) (last_root : List ℕ) where
  open S use {widths as s, base, n, k}

  -- 28 to 30: what is put to group g
  abbrev pub group_questions : ℕ → TailGroup → List Question
  group_questions g x =
      (28 asks eqb (length x.values) (level_width s n k n)) ∷
      (29 asks eqb (length x.path) (level_depth s n k n)) ∷
      (30 asks same (leads_to S n (g * level_width s n k n) x.values x.path) last_root) ∷
      []

  -- group by group, from g on
  unfoldable pub groups_questions : ℕ → List TailGroup → List Question
  groups_questions g [] = []
  groups_questions g (x ∷ xs) = group_questions g x ++ groups_questions (suc g) xs

  -- what is put to a tail record
  unfoldable pub tail_questions : ℕ → List ℕ → List Question
  tail_questions claim bytes =
      size_questions n k
      ++ (5 asks eqb (length last_root) 32) ∷
      (7 asks leb (length base) 200) ∷
      (14 asks record_whole tail_form bytes) ∷
      (27 asks eqb (run_count bytes) (level_groups s n k n)) ∷
      groups_questions 0 (record_items tail_form (level_groups s n k n) bytes)
      ++ (31 asks eqb (first_value (record_items tail_form (level_groups s n k n) bytes)) claim) ∷
      []

  unfoldable pub check_tail : ℕ → List ℕ → ℕ
  check_tail claim bytes = first_no (tail_questions claim bytes)
