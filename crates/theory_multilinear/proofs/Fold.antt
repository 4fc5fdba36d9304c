-- The line through two values, and the fold of a table: at variable 0, at even and odd places, of a list. A fold at variable 0
-- and a fold at a later variable change places.
use mathlib.Core.Path.{◌≡◌, refl, sym, ap, ap₂, ◌∙◌, fun_ext}
use mathlib.Core.List.{List}
use Prim.Native.Nat.{ℕ, suc, ◌+◌, ◌*◌, ◌/◌, ◌%◌, ◌^◌, ◌≤◌, ◌<◌}
use native.Mathlib.Omega.{arith}
use lib.ListN.{length}
use Rattle.theory_laws.specs.Xor.{◌⊕◌}
use Rattle.theory_laws.specs.Table.{tab, at}
use Rattle.theory_laws.specs.Places.{ins}
use Rattle.theory_laws.proofs.Xor.{⊕-lt}
use Rattle.theory_laws.proofs.Parity.{parity, by-parity}
use Rattle.theory_laws.proofs.Table.{length-tab, at-tab, tab-ext}
use Rattle.theory_laws.proofs.Places.{ins-even, ins-odd, ins-lt}
use Rattle.theory_field.specs.Field.{◌⊗◌}
use Rattle.theory_field.proofs.Product.{ring, ⊗-lt, one-⊗}
use Rattle.theory_laws.proofs.Table.{at-tab-lt}
use Rattle.theory_multilinear.specs.Fold.{line, fold_at, fold_list}

-- ---- the line

pub line-zero : (a b : ℕ) → line 0 a b ≡ a
unfolding line
line-zero a b = simp ring

pub line-one : (a b : ℕ) → a < 2 ^ 128 → b < 2 ^ 128 → line 1 a b ≡ b
unfolding line
line-one a b ha hb = simp (ring, one-⊗)

-- from the other end
pub line-turned : (r a b : ℕ) → a < 2 ^ 128 → b < 2 ^ 128 → line r b a ≡ line (1 ⊕ r) a b
unfolding line
line-turned r a b ha hb = simp (ring, one-⊗)

-- the line through the values at x and at 1 + x is the line moved by x
pub line-moved : (r x a b : ℕ) → line r (line x a b) (line (1 ⊕ x) a b) ≡ line (r ⊕ x) a b
unfolding line
line-moved r x a b = simp ring

pub line_cross : (r x a b c d : ℕ) → line r (line x a b) (line x c d) ≡ line x (line r a c) (line r b d)
unfolding line
line_cross r x a b c d = simp ring

pub line-lt : (r a b : ℕ) → a < 2 ^ 128 → line r a b < 2 ^ 128
unfolding line
line-lt r a b h = ⊕-lt 128 a (r ⊗ (a ⊕ b)) h (⊗-lt r (a ⊕ b))

-- ---- the fold of a table

-- at variable 0 the pairs are neighbours
pub fold_at-zero : (r : ℕ) (t : ℕ → ℕ) (v : ℕ) → fold_at 0 r t v ≡ line r (t (v * 2)) (t (v * 2 + 1))
unfolding fold_at ins
fold_at-zero r t v = ap (λ x. line r (t x) (t (v * 2 + 1))) (omega arith)

-- at a later variable the low bit of a place stays
pub fold_at-suc : (i r : ℕ) (t : ℕ → ℕ) (v : ℕ) → fold_at (suc i) r t v ≡ fold_at i r (λ w. t (w * 2 + v % 2)) (v / 2)
unfolding fold_at ins
fold_at-suc i r t v = refl

pub fold_at_cross : (i r x : ℕ) (t : ℕ → ℕ) → fold_at i r (fold_at 0 x t) ≡ fold_at 0 x (fold_at (suc i) r t)
unfolding fold_at
fold_at_cross i r x t =
    fun_ext (λ v.
    ap₂ (line r) (fold_at-zero x t (ins i 0 v)) (fold_at-zero x t (ins i 1 v))
    ∙ line_cross r x (t (ins i 0 v * 2)) (t (ins i 0 v * 2 + 1)) (t (ins i 1 v * 2)) (t (ins i 1 v * 2 + 1))
    ∙ sym (fold_at-zero x (fold_at (suc i) r t) v ∙ simp (ins-even, ins-odd)))

-- by a bit: the entry with that bit
pub fold_at-bit : (t : ℕ → ℕ) → ((v : ℕ) → t v < 2 ^ 128) → (v : ℕ) → fold_at 0 (v % 2) t (v / 2) ≡ t v
fold_at-bit t ht =
    by-parity (λ v. fold_at 0 (v % 2) t (v / 2) ≡ t v)
    (λ w. simp parity (fold_at-zero 0 t w ∙ line-zero (t (w * 2)) (t (w * 2 + 1))))
    (λ w. simp parity (fold_at-zero 1 t w ∙ line-one (t (w * 2)) (t (w * 2 + 1)) (ht (w * 2)) (ht (w * 2 + 1))))

-- the line through the folds by x and by 1 + x
pub fold_at-moved : (r x : ℕ) (t : ℕ → ℕ) (v : ℕ) → line r (fold_at 0 x t v) (fold_at 0 (1 ⊕ x) t v) ≡ fold_at 0 (r ⊕ x) t v
fold_at-moved r x t v =
    rw (fold_at-zero x t v, fold_at-zero (1 ⊕ x) t v, fold_at-zero (r ⊕ x) t v) (line-moved r x (t (v * 2)) (t (v * 2 + 1)))

pub fold_at-lt : (i r : ℕ) (t : ℕ → ℕ) → ((v : ℕ) → t v < 2 ^ 128) → (v : ℕ) → fold_at i r t v < 2 ^ 128
unfolding fold_at
fold_at-lt i r t ht v = line-lt r (t (ins i 0 v)) (t (ins i 1 v)) (ht (ins i 0 v))

-- ---- the fold of a list

pub length-fold_list : (i r : ℕ) (l : List ℕ) → length (fold_list i r l) ≡ length l / 2
unfolding fold_list
length-fold_list i r l = length-tab (length l / 2) (fold_at i r (at l))

pub fold_list-lt : (i r : ℕ) (l : List ℕ) → ((v : ℕ) → at l v < 2 ^ 128) → (v : ℕ) → at (fold_list i r l) v < 2 ^ 128
unfolding fold_list
fold_list-lt i r l h = at-tab-lt 128 (length l / 2) (fold_at i r (at l)) (fold_at-lt i r (at l) h)

-- of 2 ^ suc m entries
pub fold_list-tab : (i m r : ℕ) (f : ℕ → ℕ) → i ≤ m → fold_list i r (tab (2 ^ suc m) f) ≡ tab (2 ^ m) (fold_at i r f)
unfolding fold_list fold_at
fold_list-tab i m r f h =
    ap (λ n. tab n (fold_at i r (at (tab (2 ^ suc m) f)))) half
    ∙ tab-ext (2 ^ m) (λ v k. ap₂ (line r) (place 0 v (omega arith) k) (place 1 v (omega arith) k))
  where
    half : length (tab (2 ^ suc m) f) / 2 ≡ 2 ^ m
    half = rw (length-tab (2 ^ suc m) f) (omega arith)

    place : (b v : ℕ) → b < 2 → v < 2 ^ m → at (tab (2 ^ suc m) f) (ins i b v) ≡ f (ins i b v)
    place b v hb k = at-tab (2 ^ suc m) f (ins i b v) (ins-lt i m b v h hb k)
