-- The questions put to a tail record in two parts: 4 to 27, and 28 to 31. Rests on the check of tail records.
use Rattle.std.specs.Prelude.{ℕ, ◌≤◌, ◌≡◌, true, List, [], ◌∷◌, ◌++◌, eqb, leb, length}
use Rattle.theory_laws.specs.Questions.{Question, ◌asks◌, first_no}
use Rattle.theory_record.specs.Widths.{level_groups}
use Rattle.theory_record.specs.Format.{tail_form, run_count, record_whole, record_items}
use Rattle.theory_record.specs.Query.{size_questions}
use Rattle.theory_record.specs.Tail.{first_value, groups_questions}
use Rattle.theory_record.specs.Scheme.{Scheme}

module _ (S : Scheme) where
  open S use {widths, base, n, k}

  -- 5, 7, 14 and 27
  abbrev pub after4 : List ℕ → List ℕ → List Question
  after4 root s =
      (5 asks eqb (length root) 32) ∷
      (7 asks leb (length base) 200) ∷
      (14 asks record_whole tail_form s) ∷
      (27 asks eqb (run_count s) (level_groups widths n k n)) ∷
      []

  unfoldable pub head_number : List ℕ → List ℕ → ℕ
  head_number root s = first_no (size_questions n k ++ after4 root s)

  -- 31
  abbrev pub claimed : ℕ → List ℕ → List Question
  claimed claim s = (31 asks eqb (first_value (record_items tail_form (level_groups widths n k n) s)) claim) ∷ []

  unfoldable pub groups_number : List ℕ → ℕ → List ℕ → ℕ
  groups_number root claim s = first_no (groups_questions S root 0 (record_items tail_form (level_groups widths n k n) s) ++ claimed claim s)

-- what 4 to 27 settle
pub record Allowed (S : Scheme) (s : List ℕ) : Type 0 where
  pub n_most : S.n ≤ 20
  pub k_most : S.k ≤ 4
  pub n_least : 1 ≤ S.n
  pub base_short : length S.base ≤ 200
  pub reads_whole : record_whole tail_form s ≡ true
  pub groups_are : run_count s ≡ level_groups S.widths S.n S.k S.n
