-- Lists of strictly rising numbers below a bound: their entries, from a lower number on, without the first ones, and numbers that follow each other.
use Prim.Native.Nat.{ℕ, zero, suc, ◌+◌, ◌≤◌, ◌<◌}
use mathlib.Core.Path.{◌≡◌, refl}
use mathlib.Core.Bool.{true}
use mathlib.Core.Logic.{◌↔◌}
use mathlib.Core.List.{List, [], ◌∷◌}
use native.Mathlib.Omega.{arith}
use borrow.Author.Tests.{leb-true, ltb-true, le-leb, lt-ltb}
use lib.Dec.{leb, ltb}
use lib.ListN.{length, drop}
use Rattle.theory_laws.specs.Questions.{both}
use Rattle.theory_laws.specs.Table.{tab, at}
use Rattle.theory_laws.proofs.Lists.{both_true}
use Rattle.theory_laws.proofs.Questions.{true_both}
use Rattle.theory_code.specs.Questions.{rising}

-- its first number and the rest
pub rising-parts : (least bound x : ℕ) (xs : List ℕ) → rising least bound (x ∷ xs) ≡ true → (least ≤ x) × (x < bound) × (rising (suc x) bound xs ≡ true)
unfolding rising
rising-parts least bound x xs e =
    let a = both_true (leb least x) (both (ltb x bound) (rising (suc x) bound xs)) e in
    let b = both_true (ltb x bound) (rising (suc x) bound xs) a.1 in
    (leb-true least x a.0, ltb-true x bound b.0, b.1)

pub rising-more : (least bound x : ℕ) (xs : List ℕ) → least ≤ x → x < bound → rising (suc x) bound xs ≡ true → rising least bound (x ∷ xs) ≡ true
unfolding rising
rising-more least bound x xs h b e = true_both _ _ (le-leb least x h) (true_both _ _ (lt-ltb x bound b) e)

pub rising-below : (least bound : ℕ) (xs : List ℕ) → rising least bound xs ≡ true → (i : ℕ) → i < length xs → at xs i < bound
rising-below least bound [] e i h = absurd (omega arith)
rising-below least bound (x ∷ xs) e zero h = (rising-parts least bound x xs e).1
rising-below least bound (x ∷ xs) e (suc i) h = rising-below (suc x) bound xs (rising-parts least bound x xs e).2 i (omega arith)

-- what it says: no number is below the least or not below the bound, and each is below the next
pub record Rises (least bound : ℕ) (xs : List ℕ) : Type 0 where
  pub within : (i : ℕ) → i < length xs → (least ≤ at xs i) × (at xs i < bound)
  pub strictly : (i : ℕ) → suc i < length xs → at xs i < at xs (suc i)

rises : (least bound : ℕ) (xs : List ℕ) → rising least bound xs ≡ true → Rises least bound xs
rises least bound [] e = record { within = λ i h. absurd (omega arith); strictly = λ i h. absurd (omega arith) }
rises least bound (x ∷ xs) e =
    let p = rising-parts least bound x xs e in
    let r = rises (suc x) bound xs p.2 in
    record { within = λ i h. within i h p r; strictly = λ i h. strictly i h r }
  where
    within : (i : ℕ) → i < suc (length xs) → (least ≤ x) × (x < bound) × (rising (suc x) bound xs ≡ true) → Rises (suc x) bound xs
        → (least ≤ at (x ∷ xs) i) × (at (x ∷ xs) i < bound)
    within zero h p r = (p.0, p.1)
    within (suc i) h p r = let w = r.within i (omega arith) in (omega (arith, w.0, p.0), w.1)

    strictly : (i : ℕ) → suc i < suc (length xs) → Rises (suc x) bound xs → at (x ∷ xs) i < at (x ∷ xs) (suc i)
    strictly zero h r = let w = r.within 0 (omega arith) in omega (arith, w.0)
    strictly (suc i) h r = r.strictly i (omega arith)

rises-back : (least bound : ℕ) (xs : List ℕ) → Rises least bound xs → rising least bound xs ≡ true
unfolding rising
rises-back least bound [] r = refl
rises-back least bound (x ∷ xs) r =
    let w = r.within 0 (omega arith) in
    rising-more least bound x xs w.0 w.1 (rises-back (suc x) bound xs (record { within = λ i h. behind i h r; strictly = λ i h. r.strictly (suc i) (omega arith) }))
  where
    behind : (i : ℕ) → i < length xs → Rises least bound (x ∷ xs) → (suc x ≤ at xs i) × (at xs i < bound)
    behind zero h r = (omega (arith, r.strictly 0 (omega arith)), (r.within 1 (omega arith)).1)
    behind (suc i) h r =
        let b = behind i (omega arith) r in
        (omega (arith, b.0, r.strictly (suc i) (omega arith)), (r.within (suc (suc i)) (omega arith)).1)

pub rising_exactly : (least bound : ℕ) (xs : List ℕ) → (rising least bound xs ≡ true) ↔ Rises least bound xs
rising_exactly least bound xs = (rises least bound xs, rises-back least bound xs)

-- from a lower number on
pub rising-less : (less least bound : ℕ) (xs : List ℕ) → less ≤ least → rising least bound xs ≡ true → rising less bound xs ≡ true
unfolding rising
rising-less less least bound [] h e = refl
rising-less less least bound (x ∷ xs) h e =
    let p = rising-parts least bound x xs e in
    rising-more less bound x xs (omega (arith, p.0)) p.1 p.2

-- without the first ones
pub rising-behind : (l least bound : ℕ) (xs : List ℕ) → rising least bound xs ≡ true → rising least bound (drop l xs) ≡ true
rising-behind zero least bound xs e = e
rising-behind (suc l) least bound [] e = e
rising-behind (suc l) least bound (x ∷ xs) e =
    let p = rising-parts least bound x xs e in
    rising-behind l least bound xs (rising-less least (suc x) bound xs (omega (arith, p.0)) p.2)

-- m numbers that follow each other
pub rising-tab : (m least bound : ℕ) (f : ℕ → ℕ) → ((i : ℕ) → i < m → f i ≡ least + i) → least + m ≤ bound → rising least bound (tab m f) ≡ true
unfolding rising tab
rising-tab zero least bound f h b = refl
rising-tab (suc m) least bound f h b =
    rising-more least bound (f 0) (tab m (λ i. f (suc i))) (omega (arith, h 0 (omega arith))) (omega (arith, h 0 (omega arith)))
    (rising-tab m (suc (f 0)) bound (λ i. f (suc i)) (λ i g. omega (arith, h 0 (omega arith), h (suc i) (omega arith))) (omega (arith, h 0 (omega arith))))
