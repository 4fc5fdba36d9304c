-- Sums of numbers, and lists end to end: each list stands where the sum of the lengths before it says.
use Prim.Native.Nat.{ℕ, zero, suc, ◌+◌, ◌*◌, ◌<◌, ◌≤◌}
use mathlib.Core.Path.{◌≡◌, refl, ◌∙◌, ap₂}
use mathlib.Core.Logic.{⊎_elim}
use mathlib.Core.List.{List, ◌++◌}
use native.Mathlib.Omega.{arith}
use native.Mathlib.Nat.{eq-or-lt_of_le}
use lib.ListN.{length, drop, length-append, length-drop}
use lib.Seq.{drop_at, take-append-le, drop-append-le, take_all}
use Rattle.theory_laws.specs.Lists.{part}
use Rattle.theory_record.specs.Trees.{end_to_end}
use Rattle.theory_record.specs.Widths.{total}
use Rattle.theory_laws.proofs.Bytes.{AllBelow, below-append}

pub total_ext : (m : ℕ) (f g : ℕ → ℕ) → ((i : ℕ) → i < m → f i ≡ g i) → total m f ≡ total m g
unfolding total
total_ext zero f g h = refl
total_ext (suc m) f g h = ap₂ ◌+◌ (total_ext m f g (λ i k. h i (omega arith))) (h m (omega arith))

pub end_to_end-ext : (m : ℕ) (f g : ℕ → List ℕ) → ((i : ℕ) → i < m → f i ≡ g i) → end_to_end m f ≡ end_to_end m g
unfolding end_to_end
end_to_end-ext zero f g h = refl
end_to_end-ext (suc m) f g h = ap₂ (λ (xs ys : List ℕ). xs ++ ys) (end_to_end-ext m f g (λ i k. h i (omega arith))) (h m (omega arith))

-- the first summand apart
pub total_first : (m : ℕ) (f : ℕ → ℕ) → total (suc m) f ≡ f 0 + total m (λ i. f (suc i))
unfolding total
total_first zero f = omega arith
total_first (suc m) f = rw (total_first m f) (omega arith)

pub total-times : (c m : ℕ) (f : ℕ → ℕ) → total m (λ i. c * f i) ≡ c * total m f
unfolding total
total-times c zero f = omega arith
total-times c (suc m) f = rw (total-times c m f) (omega arith)

-- what comes before and summand i together are within the sum
pub total-within : (m i : ℕ) (f : ℕ → ℕ) → i < m → total i f + f i ≤ total m f
unfolding total
total-within zero i f h = absurd (omega arith)
total-within (suc m) i f h =
    ⊎_elim
    (λ (e : i ≡ m). rw e (omega arith))
    (λ (k : i < m). omega (arith, total-within m i f k))
    (eq-or-lt_of_le {n = i} {m = m} (omega arith))

-- ---- lists end to end

pub length-end_to_end : (m : ℕ) (f : ℕ → List ℕ) → length (end_to_end m f) ≡ total m (λ i. length (f i))
unfolding total end_to_end
length-end_to_end zero f = refl
length-end_to_end (suc m) f = rw (length-append, length-end_to_end m f)

part-front : (n i : ℕ) (xs ys : List ℕ) → i + n ≤ length xs → part n i (xs ++ ys) ≡ part n i xs
unfolding part
part-front n i xs ys h = rw (drop-append-le i xs ys (omega arith)) (take-append-le n (drop i xs) ys (simp length-drop (omega arith)))

part-last : (xs ys : List ℕ) (n i : ℕ) → length xs ≡ i → length ys ≡ n → part n i (xs ++ ys) ≡ ys
unfolding part
part-last xs ys n i e f = rw (drop_at xs ys i e) (take_all n ys (omega arith))

-- list i, by its length and the lengths before it
pub part-end_to_end : (m i : ℕ) (f : ℕ → List ℕ) (len : ℕ → ℕ) → ((j : ℕ) → j < m → length (f j) ≡ len j) → i < m
    → part (len i) (total i len) (end_to_end m f) ≡ f i
unfolding end_to_end
part-end_to_end zero i f len h k = absurd (omega arith)
part-end_to_end (suc m) i f len h k =
    let all : length (end_to_end m f) ≡ total m len = length-end_to_end m f ∙ total_ext m (λ j. length (f j)) len (λ j g. h j (omega arith)) in
    ⊎_elim
    (λ (e : i ≡ m). rw e (part-last (end_to_end m f) (f m) (len m) (total m len) all (h m (omega arith))))
    (λ (g : i < m).
    part-front (len i) (total i len) (end_to_end m f) (f m) (omega (arith, total-within m i len g))
    ∙ part-end_to_end m i f len (λ j g. h j (omega arith)) g)
    (eq-or-lt_of_le {n = i} {m = m} (omega arith))

-- summands that are at most b
pub total-le : (b m : ℕ) (f : ℕ → ℕ) → ((i : ℕ) → i < m → f i ≤ b) → total m f ≤ b * m
unfolding total
total-le b zero f h = omega arith
total-le b (suc m) f h = omega (arith, total-le b m f (λ i k. h i (omega arith)), h m (omega arith))

pub total-same : (c m : ℕ) → total m (λ i. c) ≡ c * m
unfolding total
total-same c zero = omega arith
total-same c (suc m) = rw (total-same c m) (omega arith)

-- lists with elements below a bound
pub below-end_to_end : (b m : ℕ) (f : ℕ → List ℕ) → 0 < b → ((i : ℕ) → i < m → AllBelow b (f i)) → AllBelow b (end_to_end m f)
unfolding end_to_end
below-end_to_end b zero f pos h j = pos
below-end_to_end b (suc m) f pos h j = below-append b (end_to_end m f) (f m) (below-end_to_end b m f pos (λ i g. h i (omega arith))) (h m (omega arith)) j
