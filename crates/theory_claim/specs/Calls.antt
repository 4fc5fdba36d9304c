-- A list of fold calls (SPECIFICATION 10.1): each gets the codeword and its list as the last done call left them, and a refused one
-- leaves both alone. Rests on what `fold` answers.
use Rattle.std.specs.Prelude.{ℕ, zero, suc, ◌*◌, List, [], ◌∷◌, length}
use Rattle.theory_laws.specs.Questions.{on_done}
use Rattle.theory_multilinear.specs.Fold.{fold_list}
use Rattle.theory_multilinear.specs.Folds.{Fold, dropped_at}
use Rattle.theory_code.specs.Questions.{fold_number}

-- a codeword in use: its values, and the list of original coordinates that are not folded away
pub record Codeword : Type 0 where
  pub values : List ℕ
  pub coordinates : List ℕ

-- a call: its n, k, original n, variable and challenge, whatever they are, and the length lent for its answer, in halves
pub record Call : Type 0 where
  pub n : ℕ
  pub k : ℕ
  pub original : ℕ
  pub var : ℕ
  pub by : ℕ
  pub room : ℕ

-- the number that it answers, lent the codeword c and its list
unfoldable pub call_number : Codeword → Call → ℕ
call_number c x = fold_number x.n x.k x.original x.var c.coordinates (2 * length c.values) x.room

-- the codeword and the list that it leaves where it is done
unfoldable pub call_fold : Codeword → Call → Codeword
call_fold c x = record { values = fold_list x.var x.by c.values; coordinates = dropped_at x.var c.coordinates }

-- the folds that a list of calls does, from the codeword c on
unfoldable pub done_folds : Codeword → List Call → List Fold
done_folds c [] = []
done_folds c (x ∷ xs) = on_done (call_number c x) (record { var = x.var; by = x.by } ∷ done_folds (call_fold c x) xs) (done_folds c xs)

-- the codeword after l done folds
unfoldable pub after_folds : Codeword → List Call → ℕ → Codeword
after_folds c xs zero = c
after_folds c [] (suc l) = record { values = []; coordinates = [] }
after_folds c (x ∷ xs) (suc l) = on_done (call_number c x) (after_folds (call_fold c x) xs l) (after_folds c xs (suc l))

-- the codeword as the whole list leaves it
unfoldable pub left_by : Codeword → List Call → Codeword
left_by c [] = c
left_by c (x ∷ xs) = left_by (on_done (call_number c x) (call_fold c x) c) xs
