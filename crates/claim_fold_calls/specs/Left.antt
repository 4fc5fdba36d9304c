-- What a list of fold calls leaves (SPECIFICATION 10.1): levels end to end in one buffer, the list of coordinates in another, and the challenges of the
-- done calls in a third. Rests on the calls and on where a level stands.
use Rattle.std.specs.Prelude.{ℕ, suc, ◌≤◌, ◌≡◌, List, ◌++◌, map, length, drop}
use Rattle.theory_laws.specs.Table.{tab}
use Rattle.theory_field.specs.Words.{words}
use Rattle.theory_multilinear.specs.Folds.{Fold}
use Rattle.theory_record.specs.Build.{level_start, level_values}
use Rattle.theory_claim.specs.Calls.{Codeword, Call, done_folds, after_folds, left_by}

-- the challenges of folds
abbrev pub challenges_of : List Fold → List ℕ
challenges_of fs = map (λ f. f.by) fs

-- what a list of calls on the codeword c leaves, lent the words `old` of all levels and `oldKept`: how many are done; the levels up to that one and what
-- was behind them; the list that is left, zeros behind it; the challenges of the done calls and what was behind them
pub record Left (n k : ℕ) (c : Codeword) (old oldKept : List ℕ) (calls : List Call) (done : ℕ) (levels coordinates kept : List ℕ) : Type 0 where
  pub count : done ≡ length (done_folds c calls)
  pub each : (l : ℕ) → l ≤ done → level_values n k (words levels) l ≡ (after_folds c calls l).values
  pub behind : drop (level_start n k (suc done)) (words levels) ≡ drop (level_start n k (suc done)) old
  pub list_is : coordinates ≡ (left_by c calls).coordinates ++ tab done (λ v. 0)
  pub kept_are : words kept ≡ challenges_of (done_folds c calls) ++ drop done oldKept
