-- Folds one after another, at any variables, and what they leave of a point. Rests on the fold.
use Rattle.std.specs.Prelude.{ℕ, zero, suc, ◌≤◌, List, [], ◌∷◌, map}
use Rattle.theory_laws.specs.Xor.{◌⊕◌}
use Rattle.theory_laws.specs.Table.{at}
use Rattle.theory_multilinear.specs.Fold.{fold_at, fold_list}

-- a fold to be done: its variable, of those still there, and its challenge
pub record Fold : Type 0 where
  pub var : ℕ
  pub by : ℕ

-- folds one after another, of a table and of a list
unfoldable pub folds : List Fold → (ℕ → ℕ) → ℕ → ℕ
folds [] t = t
folds (f ∷ fs) t = folds fs (fold_at f.var f.by t)

unfoldable pub folds_list : List Fold → List ℕ → List ℕ
folds_list [] l = l
folds_list (f ∷ fs) l = folds_list fs (fold_list f.var f.by l)

-- folds that can be done one after another and take n variables to m: each is at a variable that is still there
pub data Folds : ℕ → ℕ → List Fold → Type 0 where
  none : {n : ℕ} → Folds n n []
  more : {n m : ℕ} {f : Fold} {fs : List Fold} → f.var ≤ n → Folds n m fs → Folds (suc n) m (f ∷ fs)

-- folds at variable 0, by these challenges in order
abbrev pub at_first : List ℕ → List Fold
at_first rs = map (λ r. record { var = 0; by = r }) rs

-- a list without its entry i
unfoldable pub dropped_at : ℕ → List ℕ → List ℕ
dropped_at i [] = []
dropped_at zero (d ∷ ds) = ds
dropped_at (suc i) (d ∷ ds) = d ∷ dropped_at i ds

-- what folds leave of a list that has an entry for each variable: a fold drops its variable's
unfoldable pub remaining : List Fold → List ℕ → List ℕ
remaining [] ds = ds
remaining (f ∷ fs) ds = remaining fs (dropped_at f.var ds)

-- the folds with each challenge r replaced by r plus the entry of ds at the folded variable
unfoldable pub shifted : List Fold → List ℕ → List Fold
shifted [] ds = []
shifted (f ∷ fs) ds = record { var = f.var; by = f.by ⊕ at ds f.var } ∷ shifted fs (dropped_at f.var ds)
