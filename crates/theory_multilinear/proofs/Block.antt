-- A block of the code, P(v + d) for v below 2^n: by its lowest bit, at shift 0, and folded at any variables. Folding a block is
-- taking the block, under the remaining coordinates, of the folded table, each challenge r replaced by r plus the coordinate there.
use mathlib.Core.Path.{◌≡◌, refl, sym, ap, ap₂, ◌∙◌, fun_ext}
use mathlib.Core.List.{List, [], ◌∷◌}
use Prim.Native.Nat.{ℕ, zero, suc, ◌+◌, ◌*◌, ◌/◌, ◌%◌, ◌^◌, ◌<◌}
use native.Mathlib.Omega.{arith}
use lib.ListN.{length, replicate, length-replicate}
use Rattle.theory_laws.specs.Xor.{◌⊕◌}
use Rattle.theory_laws.specs.Table.{tab, at}
use Rattle.theory_laws.proofs.Xor.{zero-⊕}
use Rattle.theory_laws.proofs.Parity.{parity}
use Rattle.theory_multilinear.specs.Multilinear.{mle}
use Rattle.theory_multilinear.specs.Fold.{line, fold_at}
use Rattle.theory_multilinear.specs.Folds.{Fold, folds, Folds, none, more, dropped_at, remaining, shifted}
use Rattle.theory_multilinear.specs.Points.{vertex, add_point}
use Rattle.theory_multilinear.specs.Codeword.{block}
use Rattle.theory_laws.proofs.Parity.{place-half, place-bit}
use Rattle.theory_multilinear.proofs.Points.{vertex-cons, length-vertex, add_point-zero}
use Rattle.theory_multilinear.proofs.Fold.{fold_at-zero, fold_at-suc, fold_at_cross, fold_at-moved}
use Rattle.theory_multilinear.proofs.Folds.{length-dropped_at}
use Rattle.theory_multilinear.proofs.Multilinear.{mle-lt, mle-cons, mle-line, mle-vertex}

pub block-nil : (t : ℕ → ℕ) (v : ℕ) → block [] t v ≡ mle t []
unfolding block vertex add_point tab
block-nil t v = refl

-- the lowest bit of v goes with the first coordinate
pub block-cons : (d : ℕ) (ds : List ℕ) (t : ℕ → ℕ) (v : ℕ) → block (d ∷ ds) t v ≡ block ds (fold_at 0 (v % 2 ⊕ d) t) (v / 2)
unfolding block add_point
block-cons d ds t v =
    ap (λ p. mle t (add_point p (d ∷ ds))) (vertex-cons (length ds) v)
    ∙ mle-cons t (v % 2 ⊕ d) (add_point (vertex (length ds) (v / 2)) ds)

pub block-lt : (ds : List ℕ) (t : ℕ → ℕ) (v : ℕ) → block ds t v < 2 ^ 128
unfolding block
block-lt ds t v = mle-lt t (add_point (vertex (length ds) v) ds)

block-line : (r : ℕ) (ds : List ℕ) (t u : ℕ → ℕ) (v : ℕ) → line r (block ds t v) (block ds u v) ≡ block ds (λ w. line r (t w) (u w)) v
unfolding block
block-line r ds t u v = sym (mle-line r t u (add_point (vertex (length ds) v) ds))

-- ---- at shift 0 it is the table

pub block-zero : (n : ℕ) (t : ℕ → ℕ) → ((v : ℕ) → t v < 2 ^ 128) → (v : ℕ) → v < 2 ^ n → block (replicate n 0) t v ≡ t v
unfolding block
block-zero n t ht v h =
    ap (λ m. mle t (add_point (vertex m v) (replicate n 0))) (length-replicate n 0)
    ∙ ap (λ m. mle t (add_point (vertex n v) (replicate m 0))) (sym (length-vertex n v))
    ∙ ap (mle t) (add_point-zero (vertex n v)) ∙ mle-vertex n v t ht h

-- ---- folds

-- at variable 0
pub fold-block : (r d : ℕ) (ds : List ℕ) (t : ℕ → ℕ) → fold_at 0 r (block (d ∷ ds) t) ≡ block ds (fold_at 0 (r ⊕ d) t)
fold-block r d ds t =
    fun_ext (λ v.
    fold_at-zero r (block (d ∷ ds) t) v
    ∙ ap₂ (line r) (block-cons d ds t (v * 2) ∙ simp (parity, zero-⊕)) (block-cons d ds t (v * 2 + 1) ∙ simp parity)
    ∙ block-line r ds (fold_at 0 d t) (fold_at 0 (1 ⊕ d) t) v
    ∙ ap (λ f. block ds f v) (fun_ext (fold_at-moved r d t)))

-- at any variable
pub fold_at-block : (i r : ℕ) (ds : List ℕ) (t : ℕ → ℕ) → i < length ds → fold_at i r (block ds t) ≡ block (dropped_at i ds) (fold_at i (r ⊕ at ds i) t)
unfolding dropped_at
fold_at-block i r [] t h = absurd (omega arith)
fold_at-block zero r (d ∷ ds) t h = fold-block r d ds t
fold_at-block (suc i) r (d ∷ ds) t h =
    fun_ext (λ v.
    fold_at-suc i r (block (d ∷ ds) t) v
    ∙ ap (λ f. fold_at i r f (v / 2)) (fun_ext (λ w.
    block-cons d ds t (w * 2 + v % 2) ∙ rw (place-half w v, place-bit w v)))
    ∙ ap (λ f. f (v / 2)) (fold_at-block i r ds (fold_at 0 (v % 2 ⊕ d) t) (omega arith))
    ∙ ap (λ f. block (dropped_at i ds) f (v / 2)) (fold_at_cross i (r ⊕ at ds i) (v % 2 ⊕ d) t)
    ∙ sym (block-cons d (dropped_at i ds) (fold_at (suc i) (r ⊕ at ds i) t) v))

-- one after another
pub folds-block : {n m : ℕ} (fs : List Fold) (ds : List ℕ) (t : ℕ → ℕ) → Folds n m fs → length ds ≡ n
    → folds fs (block ds t) ≡ block (remaining fs ds) (folds (shifted fs ds) t)
unfolding folds remaining shifted
folds-block [] ds t none l = refl
folds-block (f ∷ fs) ds t (more h hs) l =
    ap (folds fs) (fold_at-block f.var f.by ds t (omega arith))
    ∙ folds-block fs (dropped_at f.var ds) (fold_at f.var (f.by ⊕ at ds f.var) t) hs (omega (arith, length-dropped_at f.var ds (omega arith)))
