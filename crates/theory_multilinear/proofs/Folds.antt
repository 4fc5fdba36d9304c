-- Folds one after another: of a table as a list, of a list with an entry for each variable, and all at variable 0.
use mathlib.Core.Path.{◌≡◌, refl, ap, ◌∙◌}
use mathlib.Core.List.{List, [], ◌∷◌, ◌++◌, map}
use Prim.Native.Nat.{ℕ, zero, suc, ◌+◌, ◌^◌, ◌≤◌, ◌<◌, zero-le}
use native.Mathlib.Nat.{zero-add}
use native.Mathlib.Omega.{arith}
use lib.ListN.{length, drop}
use lib.Seq.{drop-nil}
use Rattle.theory_laws.specs.Xor.{◌⊕◌}
use Rattle.theory_laws.specs.Table.{tab}
use Rattle.theory_multilinear.specs.Points.{add_point}
use Rattle.theory_multilinear.specs.Fold.{fold_at, fold_list}
use Rattle.theory_multilinear.specs.Folds.{Fold, folds, folds_list, Folds, none, more, at_first, dropped_at, remaining, shifted}
use Rattle.theory_multilinear.proofs.Fold.{fold_list-tab}

pub folds_list-tab : {n m : ℕ} (fs : List Fold) (k : ℕ) (f : ℕ → ℕ) → Folds n m fs → folds_list fs (tab (2 ^ (n + k)) f) ≡ tab (2 ^ (m + k)) (folds fs f)
unfolding folds_list folds
folds_list-tab [] k f none = refl
folds_list-tab (g ∷ fs) k f (more {n = n} h hs) =
    ap (folds_list fs) (ap (λ x. fold_list g.var g.by (tab (2 ^ x) f)) (omega arith) ∙ fold_list-tab g.var (n + k) g.by f (omega arith))
    ∙ folds_list-tab fs k (fold_at g.var g.by f) hs

pub folds_list-append : (fs gs : List Fold) (l : List ℕ) → folds_list (fs ++ gs) l ≡ folds_list gs (folds_list fs l)
unfolding folds_list
folds_list-append [] gs l = refl
folds_list-append (f ∷ fs) gs l = folds_list-append fs gs (fold_list f.var f.by l)

-- ---- a list with an entry for each variable

pub length-dropped_at : (i : ℕ) (ds : List ℕ) → i < length ds → suc (length (dropped_at i ds)) ≡ length ds
unfolding dropped_at
length-dropped_at i [] h = absurd (omega arith)
length-dropped_at zero (d ∷ ds) h = refl
length-dropped_at (suc i) (d ∷ ds) h = ap suc (length-dropped_at i ds (omega arith))

dropped_at-map : (i : ℕ) (g : ℕ → ℕ) (cs : List ℕ) → dropped_at i (map g cs) ≡ map g (dropped_at i cs)
unfolding dropped_at
dropped_at-map i g [] = refl
dropped_at-map zero g (c ∷ cs) = refl
dropped_at-map (suc i) g (c ∷ cs) = ap (λ (l : List ℕ). g c ∷ l) (dropped_at-map i g cs)

pub remaining-map : (fs : List Fold) (g : ℕ → ℕ) (cs : List ℕ) → remaining fs (map g cs) ≡ map g (remaining fs cs)
unfolding remaining
remaining-map [] g cs = refl
remaining-map (f ∷ fs) g cs = ap (remaining fs) (dropped_at-map f.var g cs) ∙ remaining-map fs g (dropped_at f.var cs)

-- ---- all at variable 0

pub folds-first : (n m : ℕ) (rs : List ℕ) → n ≡ length rs + m → Folds n m (at_first rs)
folds-first n m [] h = rw (h ∙ zero-add m) none
folds-first zero m (r ∷ rs) h = absurd (omega arith)
folds-first (suc n) m (r ∷ rs) h = more zero-le (folds-first n m rs (omega arith))

pub remaining-first : (rs ds : List ℕ) → remaining (at_first rs) ds ≡ drop (length rs) ds
unfolding remaining dropped_at
remaining-first [] ds = refl
remaining-first (r ∷ rs) [] = remaining-first rs [] ∙ drop-nil (length rs)
remaining-first (r ∷ rs) (d ∷ ds) = remaining-first rs ds

pub shifted-first : (rs ds : List ℕ) → length rs ≤ length ds → shifted (at_first rs) ds ≡ at_first (add_point rs ds)
unfolding shifted dropped_at add_point
shifted-first [] ds h = refl
shifted-first (r ∷ rs) [] h = absurd (omega arith)
shifted-first (r ∷ rs) (d ∷ ds) h = ap (λ (fs : List Fold). record { var = 0; by = r ⊕ d } ∷ fs) (shifted-first rs ds (omega arith))
