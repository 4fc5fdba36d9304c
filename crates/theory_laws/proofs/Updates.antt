-- What a loop leaves that changes a list from the front, one element a turn, or that fills it.
use mathlib.Core.Path.{◌≡◌, refl, sym, ap, ap₂, ◌∙◌}
use mathlib.Core.Logic.{⊎_elim}
use mathlib.Core.List.{List, [], ◌∷◌}
use Prim.Native.Nat.{ℕ, zero, suc, ◌+◌, ◌≤◌, ◌<◌}
use native.Mathlib.Nat.{le_of_suc-le-suc, not-suc-le-zero, eq-or-lt_of_le, le_refl}
use native.Mathlib.Omega.{arith}
use lib.ListN.{length, get_or, set}
use lib.Seq.{get_or-set_same, get_or-set_other}
use Rattle.theory_laws.specs.Table.{tab, at}
use native.Mathlib.Numerals.{add-one}

-- ---- the first i elements changed, each by a function of its index and of what stood there
unfoldable pub updated : ℕ → (ℕ → ℕ → ℕ) → List ℕ → List ℕ
updated zero g xs = xs
updated (suc i) g [] = []
updated (suc i) g (x ∷ xs) = g 0 x ∷ updated i (λ k. g (suc k)) xs

pub length-updated : (i : ℕ) (g : ℕ → ℕ → ℕ) (xs : List ℕ) → length (updated i g xs) ≡ length xs
unfolding updated
length-updated zero g xs = refl
length-updated (suc i) g [] = refl
length-updated (suc i) g (x ∷ xs) = ap suc (length-updated i (λ k. g (suc k)) xs)

-- at and past i all is as it was, so that a loop may read ahead
pub updated-at : (i j : ℕ) (g : ℕ → ℕ → ℕ) (xs : List ℕ) (d : ℕ) → i ≤ j → get_or (updated i g xs) j d ≡ get_or xs j d
unfolding updated
updated-at zero j g xs d h = refl
updated-at (suc i) j g [] d h = refl
updated-at (suc i) zero g (x ∷ xs) d h = absurd (not-suc-le-zero h)
updated-at (suc i) (suc j) g (x ∷ xs) d h = updated-at i j (λ k. g (suc k)) xs d (le_of_suc-le-suc h)

-- a turn
pub updated-more : (i : ℕ) (g : ℕ → ℕ → ℕ) (xs : List ℕ) (d : ℕ) → set (updated i g xs) i (g i (get_or xs i d)) ≡ updated (suc i) g xs
unfolding updated
updated-more zero g [] d = refl
updated-more zero g (x ∷ xs) d = refl
updated-more (suc i) g [] d = refl
updated-more (suc i) g (x ∷ xs) d = ap (λ (r : List ℕ). g 0 x ∷ r) (updated-more i (λ k. g (suc k)) xs d)

-- after the last turn the list is a table
pub updated-all : (i : ℕ) (g : ℕ → ℕ → ℕ) (xs : List ℕ) → length xs ≤ i → updated i g xs ≡ tab (length xs) (λ k. g k (at xs k))
unfolding updated tab
updated-all zero g [] h = refl
updated-all zero g (x ∷ xs) h = absurd (not-suc-le-zero h)
updated-all (suc i) g [] h = refl
updated-all (suc i) g (x ∷ xs) h = ap (λ (r : List ℕ). g 0 x ∷ r) (updated-all i (λ k. g (suc k)) xs (le_of_suc-le-suc h))

pub updated_end : (g : ℕ → ℕ → ℕ) (k n : ℕ) (xs us : List ℕ) → length xs ≡ n → n ≤ k → us ≡ updated k g xs → us ≡ tab n (λ i. g i (at xs i))
updated_end g k n xs us l h p = p ∙ updated-all k g xs (omega arith) ∙ ap (λ m. tab m (λ i. g i (at xs i))) l

-- what a turn reads ahead is as it was
pub updated-read : (v : ℕ) (g : ℕ → ℕ → ℕ) (xs ys : List ℕ) → ys ≡ updated v g xs → at ys v ≡ at xs v
updated-read v g xs ys e = ap (λ l. at l v) e ∙ updated-at v v g xs 0 (le_refl v)

-- and what it writes
pub updated-turn : (v : ℕ) (g : ℕ → ℕ → ℕ) (xs ys : List ℕ) (p : ℕ) → ys ≡ updated v g xs → p ≡ g v (at xs v)
    → set ys v p ≡ updated (v + 1) g xs
updated-turn v g xs ys p e f = ap₂ (λ l x. set l v x) e f ∙ updated-more v g xs 0 ∙ ap (λ n. updated n g xs) (sym (add-one v))

-- ---- a list filled from the front by f

pub fill_step : (f : ℕ → ℕ) (i : ℕ) (m : List ℕ) (v : ℕ) → i < length m → v ≡ f i → ((k : ℕ) → k < i → get_or m k 0 ≡ f k)
    → (k : ℕ) → k < i + 1 → get_or (set m i v) k 0 ≡ f k
fill_step f i m v h e g k l =
    ⊎_elim
    (λ (q : k ≡ i). rw q (get_or-set_same m i v 0 h ∙ e))
    (λ (a : k < i). get_or-set_other m i k v 0 (omega arith) ∙ g k a)
    (eq-or-lt_of_le {n = k} {m = i} (omega arith))
