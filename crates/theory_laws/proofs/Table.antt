-- Tables as lists: `tab` and `at` undo each other, and a table grows at its end.
use mathlib.Core.Path.{◌≡◌, refl, sym, ap, ap₂, ◌∙◌, fun_ext}
use mathlib.Core.List.{List, [], ◌∷◌, ◌++◌, map}
use Prim.Native.Nat.{ℕ, zero, suc, ◌+◌, ◌^◌, ◌≤◌, ◌<◌}
use native.Mathlib.Nat.{zero-add, suc-add}
use native.Mathlib.Omega.{arith}
use lib.ListN.{length, replicate, take}
use lib.Pow.{pow_pos}
use Rattle.theory_laws.specs.Table.{tab, at}
use lib.Seq.{get_or-take, length-take-le}

pub length-tab : (m : ℕ) (f : ℕ → ℕ) → length (tab m f) ≡ m
unfolding tab
length-tab zero f = refl
length-tab (suc m) f = ap suc (length-tab m (λ k. f (suc k)))

pub at-tab : (m : ℕ) (f : ℕ → ℕ) (v : ℕ) → v < m → at (tab m f) v ≡ f v
unfolding tab
at-tab zero f v h = absurd (omega arith)
at-tab (suc m) f zero h = refl
at-tab (suc m) f (suc v) h = at-tab m (λ k. f (suc k)) v (omega arith)

pub tab-ext : (m : ℕ) {f g : ℕ → ℕ} → ((v : ℕ) → v < m → f v ≡ g v) → tab m f ≡ tab m g
unfolding tab
tab-ext zero h = refl
tab-ext (suc m) h = ap₂ ◌∷◌ (h 0 (omega arith)) (tab-ext m (λ v k. h (suc v) (omega arith)))

pub tab-at : (l : List ℕ) → tab (length l) (at l) ≡ l
unfolding tab
tab-at [] = refl
tab-at (x ∷ l) = ap (λ (r : List ℕ). x ∷ r) (tab-at l)

-- a list is the table of f if its length and its entries are
pub is-tab : (l : List ℕ) (m : ℕ) (f : ℕ → ℕ) → length l ≡ m → ((v : ℕ) → v < m → at l v ≡ f v) → l ≡ tab m f
is-tab l m f e h = sym (tab-at l) ∙ ap (λ n. tab n (at l)) e ∙ tab-ext m h

pub tab-add : (m k : ℕ) (f : ℕ → ℕ) → tab (m + k) f ≡ tab m f ++ tab k (λ v. f (m + v))
unfolding tab
tab-add zero k f = rw (zero-add k) (ap (tab k) (fun_ext (λ v. ap f (sym (zero-add v)))))
tab-add (suc m) k f =
    rw (suc-add m k)
    (ap (λ (r : List ℕ). f 0 ∷ r)
    (tab-add m k (λ v. f (suc v)) ∙ ap (λ (g : ℕ → ℕ). tab m (λ v. f (suc v)) ++ tab k g) (fun_ext (λ v. ap f (sym (suc-add m v))))))

pub map-tab : (g : ℕ → ℕ) (m : ℕ) (f : ℕ → ℕ) → map g (tab m f) ≡ tab m (λ v. g (f v))
unfolding tab
map-tab g zero f = refl
map-tab g (suc m) f = ap (λ (r : List ℕ). g (f 0) ∷ r) (map-tab g m (λ k. f (suc k)))

-- entries below a bound
pub at-tab-lt : (k m : ℕ) (f : ℕ → ℕ) → ((v : ℕ) → f v < 2 ^ k) → (v : ℕ) → at (tab m f) v < 2 ^ k
unfolding tab
at-tab-lt k zero f h v = pow_pos k
at-tab-lt k (suc m) f h zero = h 0
at-tab-lt k (suc m) f h (suc v) = at-tab-lt k m (λ i. f (suc i)) (λ i. h (suc i)) v

pub tab-zero : (n : ℕ) → tab n (λ i. 0) ≡ replicate n 0
unfolding tab
tab-zero zero = refl
tab-zero (suc n) = ap (λ (l : List ℕ). 0 ∷ l) (tab-zero n)

-- ---- lists as tables

pub map_at : (f : ℕ → ℕ) (l : List ℕ) → map f l ≡ tab (length l) (λ v. f (at l v))
map_at f l = ap (map f) (sym (tab-at l)) ∙ map-tab f (length l) (at l)

pub take-tab : (n : ℕ) (l : List ℕ) → n ≤ length l → take n l ≡ tab n (at l)
take-tab n l h = is-tab (take n l) n (at l) (length-take-le n l h) (λ v k. get_or-take n l v 0 k)

-- zeros
pub zeros-at : (n k : ℕ) → ◌≡◌ {A = ℕ} (at (replicate n 0) k) 0
zeros-at zero k = refl
zeros-at (suc n) zero = refl
zeros-at (suc n) (suc k) = zeros-at n k
