-- The multilinear extension: by the first coordinate it is that of the folded table; it is linear in the table, affine in each
-- coordinate, and the table itself at a vertex of the cube.
use mathlib.Core.Path.{◌≡◌, refl, sym, ap, ap₂, ◌∙◌, fun_ext}
use mathlib.Core.List.{List, [], ◌∷◌, ◌++◌}
use Prim.Native.Nat.{ℕ, zero, suc, ◌+◌, ◌*◌, ◌/◌, ◌%◌, ◌^◌, ◌<◌}
use native.Mathlib.Nat.{pow-suc}
use native.Mathlib.Omega.{arith}
use lib.ListN.{length}
use Rattle.theory_laws.specs.Xor.{◌⊕◌}
use Rattle.theory_laws.specs.Sum.{sum}
use Rattle.theory_laws.specs.Table.{tab}
use Rattle.theory_laws.proofs.Xor.{zero-⊕}
use Rattle.theory_laws.proofs.Sum.{sum-ext, sum-⊕, sum-map, sum-double, sum_lt}
use Rattle.theory_field.specs.Field.{◌⊗◌}
use Rattle.theory_field.proofs.Product.{ring, ⊗-⊕, ⊕-⊗, ⊗_assoc, ⊗-one, ⊗-lt}
use Rattle.theory_multilinear.specs.Equality.{eq_at}
use Rattle.theory_multilinear.specs.Multilinear.{mle}
use Rattle.theory_multilinear.specs.Fold.{line, fold_at}
use Rattle.theory_multilinear.specs.Folds.{folds, at_first}
use Rattle.theory_multilinear.specs.Points.{vertex}
use Rattle.theory_multilinear.proofs.Equality.{eq-nil, eq_even, eq-odd}
use Rattle.theory_multilinear.proofs.Points.{vertex-cons}
use Rattle.theory_multilinear.proofs.Fold.{fold_at-zero, fold_at-bit, fold_at-moved, fold_at-lt}

-- only the entries below 2^n count
pub mle-ext : (z : List ℕ) {t u : ℕ → ℕ} → ((v : ℕ) → v < 2 ^ length z → t v ≡ u v) → mle t z ≡ mle u z
unfolding mle
mle-ext z h = sum-ext (2 ^ length z) (λ v k. ap (λ x. x ⊗ eq_at z v) (h v k))

-- it is a word
pub mle-lt : (t : ℕ → ℕ) (z : List ℕ) → mle t z < 2 ^ 128
unfolding mle
mle-lt t z = sum_lt (2 ^ length z) 128 (λ v. t v ⊗ eq_at z v) (λ v. ⊗-lt (t v) (eq_at z v))

-- ---- the first coordinate

pub mle-nil : (t : ℕ → ℕ) → t 0 < 2 ^ 128 → mle t [] ≡ t 0
unfolding mle sum
mle-nil t h = zero-⊕ (t 0 ⊗ eq_at [] 0) ∙ rw (eq-nil 0) (⊗-one (t 0) h)

mle-pair : (a b z e : ℕ) → a ⊗ ((1 ⊕ z) ⊗ e) ⊕ b ⊗ (z ⊗ e) ≡ line z a b ⊗ e
unfolding line
mle-pair a b z e = simp ring

pub mle-cons : (t : ℕ → ℕ) (z : ℕ) (zs : List ℕ) → mle t (z ∷ zs) ≡ mle (fold_at 0 z t) zs
unfolding mle
mle-cons t z zs =
    ap (λ n. sum n (λ v. t v ⊗ eq_at (z ∷ zs) v)) (pow-suc 2 (length zs))
    ∙ sum-double (2 ^ length zs) (λ v. t v ⊗ eq_at (z ∷ zs) v)
    ∙ ap (sum (2 ^ length zs)) (fun_ext (λ v.
    simp (eq_even, eq-odd) (mle-pair (t (v * 2)) (t (v * 2 + 1)) z (eq_at zs v) ∙ ap (λ x. x ⊗ eq_at zs v) (sym (fold_at-zero z t v)))))

-- folds at variable 0 fix the first coordinates
pub mle-folds : (rs zs : List ℕ) (t : ℕ → ℕ) → mle (folds (at_first rs) t) zs ≡ mle t (rs ++ zs)
unfolding folds
mle-folds [] zs t = refl
mle-folds (r ∷ rs) zs t = mle-folds rs zs (fold_at 0 r t) ∙ sym (mle-cons t r (rs ++ zs))

-- ---- linear in the table

pub mle-add : (t u : ℕ → ℕ) (z : List ℕ) → mle (λ v. t v ⊕ u v) z ≡ mle t z ⊕ mle u z
unfolding mle
mle-add t u z =
    ap (sum (2 ^ length z)) (fun_ext (λ v. ⊕-⊗ (t v) (u v) (eq_at z v)))
    ∙ sum-⊕ (2 ^ length z) (λ v. t v ⊗ eq_at z v) (λ v. u v ⊗ eq_at z v)

pub mle_scale : (c : ℕ) (t : ℕ → ℕ) (z : List ℕ) → mle (λ v. c ⊗ t v) z ≡ c ⊗ mle t z
unfolding mle
mle_scale c t z =
    ap (sum (2 ^ length z)) (fun_ext (λ v. ⊗_assoc c (t v) (eq_at z v)))
    ∙ sym (sum-map (◌⊗◌ c) (⊗-⊕ c) (2 ^ length z) (λ v. t v ⊗ eq_at z v))

pub mle-line : (r : ℕ) (t u : ℕ → ℕ) (z : List ℕ) → mle (λ v. line r (t v) (u v)) z ≡ line r (mle t z) (mle u z)
unfolding line
mle-line r t u z =
    mle-add t (λ v. r ⊗ (t v ⊕ u v)) z
    ∙ ap (λ x. mle t z ⊕ x) (mle_scale r (λ v. t v ⊕ u v) z ∙ ap (λ x. r ⊗ x) (mle-add t u z))

-- ---- affine in each coordinate

pub mle_affine : (t : ℕ → ℕ) (x r : ℕ) (zs : List ℕ) → mle t ((r ⊕ x) ∷ zs) ≡ line r (mle t (x ∷ zs)) (mle t ((1 ⊕ x) ∷ zs))
mle_affine t x r zs =
    mle-cons t (r ⊕ x) zs
    ∙ ap (λ f. mle f zs) (fun_ext (λ v. sym (fold_at-moved r x t v)))
    ∙ mle-line r (fold_at 0 x t) (fold_at 0 (1 ⊕ x) t) zs
    ∙ ap₂ (line r) (sym (mle-cons t x zs)) (sym (mle-cons t (1 ⊕ x) zs))

-- ---- at a vertex

pub mle-vertex : (n v : ℕ) (t : ℕ → ℕ) → ((w : ℕ) → t w < 2 ^ 128) → v < 2 ^ n → mle t (vertex n v) ≡ t v
unfolding vertex tab
mle-vertex zero v t ht h = mle-nil t (ht 0) ∙ ap t (omega arith)
mle-vertex (suc n) v t ht h =
    ap (mle t) (vertex-cons n v) ∙ mle-cons t (v % 2) (vertex n (v / 2))
    ∙ mle-vertex n (v / 2) (fold_at 0 (v % 2) t) (fold_at-lt 0 (v % 2) t ht) (omega arith) ∙ fold_at-bit t ht v
