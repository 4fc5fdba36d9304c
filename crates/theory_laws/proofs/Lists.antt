-- Parts, runs, stores, little-endian numbers and the test of equality.
use Prim.Native.Nat.{ℕ, zero, suc, ◌+◌, ◌-◌, ◌*◌, ◌/◌, ◌%◌, ◌^◌, ◌<◌, ◌≤◌}
use mathlib.Core.Path.{◌≡◌, refl, sym, ◌∙◌, ap, ap₂}
use mathlib.Core.Bool.{Bool, true, false}
use mathlib.Core.List.{List, [], ◌∷◌, ◌++◌, append-nil, append_assoc}
use native.Mathlib.Nat.{div-add-mod', pow-suc, suc-add, div-div-eq-div-mul, pow-succ'}
use native.Mathlib.Omega.{arith}
use native.Mathlib.Decide.{dec_lt}
use borrow.Author.Tests.{eqb-true, eq-eqb}
use lib.Dec.{eqb}
use lib.ListN.{length, get_or, take, drop, set, length-append, length-take, length-drop, take-append-drop, drop_of_length-le}
use lib.Seq.{drop-drop, get_or-drop, get_or-take, sets, sets-eq, length-sets, take-set-le, take-take, take-add, take_at, drop_at, take-nil}
use lib.Seq.{set-set, set_comm, set-get_or, drop-cons, length-take-le}
use Rattle.theory_laws.specs.Questions.{both}
use Rattle.theory_laws.specs.Lists.{part, runs, flat, stored, le_bytes, le_value, same}
pub use Rattle.theory_laws.specs.Lists.{AllLong, Bytes}
use Rattle.theory_laws.specs.Table.{at}

-- ---- parts

pub length_part : (n i : ℕ) (l : List ℕ) → i + n ≤ length l → length (part n i l) ≡ n
unfolding part
length_part n i l h = length-take-le n (drop i l) (simp length-drop (omega arith))

pub get_d_part : (n i k : ℕ) (l : List ℕ) → k < n → get_or (part n i l) k 0 ≡ get_or l (i + k) 0
unfolding part
get_d_part n i k l h = get_or-take n (drop i l) k 0 h ∙ get_or-drop i l k 0

-- a part in the middle, taken either way
pub take-drop : (n i : ℕ) (l : List ℕ) → take n (drop i l) ≡ drop i (take (i + n) l)
take-drop n zero l = ap (λ (k : ℕ). take k l) (let e : n ≡ 0 + n = omega arith in e)
take-drop n (suc i) [] = take-nil n ∙ sym (ap (drop (suc i)) (take-nil (suc i + n)))
take-drop n (suc i) (x ∷ l) = take-drop n i l ∙ ap (λ (k : ℕ). drop (suc i) (take k (x ∷ l))) (let e : suc (i + n) ≡ suc i + n = omega arith in e)

pub part-cons : (m i : ℕ) (l : List ℕ) → i < length l → part (suc m) i l ≡ at l i ∷ part m (suc i) l
unfolding part
part-cons m i l h = ap (take (suc m)) (drop-cons l i 0 h)

pub part-add : (m n i : ℕ) (l : List ℕ) → part (m + n) i l ≡ part m i l ++ part n (i + m) l
unfolding part
part-add m n i l = take-add m n (drop i l) ∙ ap (λ (r : List ℕ). take m (drop i l) ++ take n r) (drop-drop m i l)

-- a part, and what follows it
pub part_then : (n i : ℕ) (l : List ℕ) → part n i l ++ drop (i + n) l ≡ drop i l
unfolding part
part_then n i l = ap (λ (x : List ℕ). take n (drop i l) ++ x) (sym (drop-drop n i l)) ∙ take-append-drop n (drop i l)

-- the part of a slice from i to i + n, as a caller lends it
pub lent-part : (n i : ℕ) (l : List ℕ) → take (i + n - i) (drop i l) ≡ part n i l
unfolding part
lent-part n i l = ap (λ (k : ℕ). take k (drop i l)) (let e : i + n - i ≡ n = omega arith in e)

pub length-lent : (n i : ℕ) (l : List ℕ) → i + n ≤ length l → length (take (i + n - i) (drop i l)) ≡ n
length-lent n i l h = ap length (lent-part n i l) ∙ length_part n i l h

pub length-part-le : (m i : ℕ) (l : List ℕ) → length (part m i l) ≤ m
unfolding part
length-part-le m i l = simp length-take (omega arith)

-- two lists with one beginning have the same parts in it
pub part_same : (k n i : ℕ) (t u : List ℕ) → take k t ≡ take k u → i + n ≤ k → part n i t ≡ part n i u
unfolding part
part_same k n i t u e h = rw (take-drop n i t, take-drop n i u, ← (take-take (i + n) k t h), ← (take-take (i + n) k u h), e)

-- ---- runs of items of one size

pub length_runs : (n c : ℕ) (l : List ℕ) → length (runs n c l) ≡ c
unfolding runs
length_runs n zero l = refl
length_runs n (suc c) l = ap suc (length_runs n c (drop n l))

-- past the first item, and k items more
drop-run : (n k : ℕ) (l : List ℕ) → drop (n * k) (drop n l) ≡ drop (n * suc k) l
drop-run n k l =
    let e : n + n * k ≡ n * suc k = omega arith in
    drop-drop (n * k) n l ∙ ap (λ (m : ℕ). drop m l) e

-- item k
pub get_d_runs : (n c k : ℕ) (l : List ℕ) → k < c → get_or (runs n c l) k [] ≡ part n (n * k) l
unfolding runs part
get_d_runs n zero k l h = absurd (omega arith)
get_d_runs n (suc c) zero l h = ap (λ (m : ℕ). take n (drop m l)) (let e : 0 ≡ n * 0 = omega arith in e)
get_d_runs n (suc c) (suc k) l h =
    get_d_runs n c k (drop n l) (omega arith) ∙ ap (take n) (drop-run n k l)

pub flat-runs : (n c : ℕ) (l : List ℕ) → flat (runs n c l) ≡ take (n * c) l
unfolding flat runs
flat-runs n zero l = ap (λ (k : ℕ). take k l) (let e : 0 ≡ n * 0 = omega arith in e)
flat-runs n (suc c) l =
    let e : n + n * c ≡ n * suc c = omega arith in
    ap (λ (r : List ℕ). take n l ++ r) (flat-runs n c (drop n l)) ∙ sym (take-add n (n * c) l) ∙ ap (λ (k : ℕ). take k l) e

pub runs-flat : (n : ℕ) (xs : List (List ℕ)) (t : List ℕ) → AllLong n xs → runs n (length xs) (flat xs ++ t) ≡ xs
unfolding runs flat
runs-flat n [] t h = refl
runs-flat n (x ∷ xs) t h =
    rw (append_assoc x (flat xs) t, take_at x (flat xs ++ t) n h.0, drop_at x (flat xs ++ t) n h.0)
    (ap (λ (r : List (List ℕ)). x ∷ r) (runs-flat n xs t h.1))

-- items end to end, with nothing after them, read back
pub runs_of_flat : (n c : ℕ) (xs : List (List ℕ)) → length xs ≡ c → AllLong n xs → runs n c (flat xs) ≡ xs
runs_of_flat n c xs e a = ap₂ (λ (i : ℕ) (b : List ℕ). runs n i b) (sym e) (sym (append-nil (flat xs))) ∙ runs-flat n xs [] a

pub length-flat : (n : ℕ) (xs : List (List ℕ)) → AllLong n xs → length (flat xs) ≡ n * length xs
unfolding flat
length-flat n [] h = omega arith
length-flat n (x ∷ xs) h = rw (length-append x (flat xs), length-flat n xs h.1, h.0) (omega arith)

pub flat_append : (xs ys : List (List ℕ)) → flat (xs ++ ys) ≡ flat xs ++ flat ys
unfolding flat
flat_append [] ys = refl
flat_append (x ∷ xs) ys = ap (λ (r : List ℕ). x ++ r) (flat_append xs ys) ∙ sym (append_assoc x (flat xs) (flat ys))

pub drop-runs : (n c k : ℕ) (l : List ℕ) → k ≤ c → drop k (runs n c l) ≡ runs n (c - k) (drop (n * k) l)
unfolding runs
drop-runs n c zero l h = ap₂ (λ i j. runs n i (drop j l)) (let e : c ≡ c - 0 = omega arith in e) (let e : 0 ≡ n * 0 = omega arith in e)
drop-runs n zero (suc k) l h = absurd (omega arith)
drop-runs n (suc c) (suc k) l h =
    drop-runs n c k (drop n l) (omega arith)
    ∙ ap₂ (λ (i : ℕ) (x : List ℕ). runs n i x) (let e : c - k ≡ suc c - suc k = omega arith in e) (drop-run n k l)

-- items in two parts
pub runs-add : (n a b : ℕ) (l : List ℕ) → runs n (a + b) l ≡ runs n a l ++ runs n b (drop (n * a) l)
unfolding runs
runs-add n zero b l = ap₂ (λ (i j : ℕ). runs n i (drop j l)) (let e : 0 + b ≡ b = omega arith in e) (let e : 0 ≡ n * 0 = omega arith in e)
runs-add n (suc a) b l =
    rw (suc-add a b)
    (ap (λ (r : List (List ℕ)). take n l ∷ r)
    (runs-add n a b (drop n l) ∙ ap (λ (x : List ℕ). runs n a (drop n l) ++ runs n b x) (drop-run n a l)))

-- lists with one beginning have the same items in it
pub runs_same : (n c : ℕ) (l m : List ℕ) → take (n * c) l ≡ take (n * c) m → runs n c l ≡ runs n c m
unfolding runs
runs_same n zero l m e = refl
runs_same n (suc c) l m e =
    let k : n + n * c ≡ n * suc c = omega arith in
    let e' : take (n + n * c) l ≡ take (n + n * c) m = rw k e in
    ap₂ (λ (x : List ℕ) (xs : List (List ℕ)). x ∷ xs) (sym (take-take n (n + n * c) l (omega arith)) ∙ ap (take n) e' ∙ take-take n (n + n * c) m (omega arith))
    (runs_same n c (drop n l) (drop n m) (take-drop (n * c) n l ∙ ap (drop n) e' ∙ sym (take-drop (n * c) n m)))

-- the items are in the beginning that they take
pub runs-take : (n c : ℕ) (l : List ℕ) → runs n c (take (n * c) l) ≡ runs n c l
runs-take n c l = runs_same n c (take (n * c) l) l (take-take (n * c) (n * c) l (omega arith))

pub get_d_long : (n k : ℕ) (xs : List (List ℕ)) → AllLong n xs → k < length xs → length (get_or xs k []) ≡ n
get_d_long n k [] a h = absurd (omega arith)
get_d_long n zero (x ∷ xs) a h = a.0
get_d_long n (suc k) (x ∷ xs) a h = get_d_long n k xs a.1 (omega arith)

pub append-long : (n : ℕ) (xs ys : List (List ℕ)) → AllLong n xs → AllLong n ys → AllLong n (xs ++ ys)
append-long n [] ys a b = b
append-long n (x ∷ xs) ys a b = (a.0, append-long n xs ys a.1 b)

pub drop-long : (n k : ℕ) (xs : List (List ℕ)) → AllLong n xs → AllLong n (drop k xs)
drop-long n zero xs a = a
drop-long n (suc k) [] a = tt
drop-long n (suc k) (x ∷ xs) a = drop-long n k xs a.1

pub runs-long : (n c : ℕ) (l : List ℕ) → n * c ≤ length l → AllLong n (runs n c l)
unfolding runs
runs-long n zero l h = tt
runs-long n (suc c) l h = (length-take-le n l (omega arith), runs-long n c (drop n l) (simp length-drop (omega arith)))

-- ---- stores

pub length-stored : (l : List ℕ) (at : ℕ) (bs : List ℕ) → length (stored l at bs) ≡ length l
unfolding stored
length-stored l at bs = length-sets l at bs

pub stored-nil : (l : List ℕ) (at : ℕ) → stored l at [] ≡ l
unfolding stored
stored-nil l at = refl

pub stored-cons : (l : List ℕ) (at x : ℕ) (bs : List ℕ) → stored l at (x ∷ bs) ≡ stored (set l at x) (suc at) bs
unfolding stored
stored-cons l at x bs = refl

pub stored-append : (l : List ℕ) (i : ℕ) (a b : List ℕ) → stored l i (a ++ b) ≡ stored (stored l i a) (i + length a) b
unfolding stored
stored-append l i [] b = ap (λ (k : ℕ). sets l k b) (let e : i ≡ i + 0 = omega arith in e)
stored-append l i (x ∷ a) b =
    let e : suc i + length a ≡ i + suc (length a) = omega arith in
    stored-append (set l i x) (suc i) a b ∙ ap (λ (k : ℕ). sets (sets (set l i x) (suc i) a) k b) e

-- the whole of a list
pub stored-all : (l vs : List ℕ) → length vs ≡ length l → stored l 0 vs ≡ vs
unfolding stored
stored-all l vs e = sets-eq vs l 0 (omega arith) ∙ ap (λ (r : List ℕ). vs ++ r) (drop_of_length-le l {i = 0 + length vs} (omega arith)) ∙ append-nil vs

-- one run of stores after another
pub then_stored : (o o1 o2 : List ℕ) (at j : ℕ) (a b : List ℕ) → o1 ≡ stored o at a → j ≡ at + length a → o2 ≡ stored o1 j b → o2 ≡ stored o at (a ++ b)
then_stored o o1 o2 at j a b e f g = g ∙ ap (λ (k : ℕ). stored o1 k b) f ∙ ap (λ (l : List ℕ). stored l (at + length a) b) e ∙ sym (stored-append o at a b)

-- what stands before the place stays
pub take-stored : (k : ℕ) (l : List ℕ) (at : ℕ) (bs : List ℕ) → k ≤ at → take k (stored l at bs) ≡ take k l
unfolding stored
take-stored k l at [] h = refl
take-stored k l at (x ∷ bs) h = take-stored k (set l at x) (suc at) bs (omega arith) ∙ take-set-le k l at x h

-- storing what is there changes nothing
pub stored_same : (n i : ℕ) (t : List ℕ) → stored t i (take n (drop i t)) ≡ t
unfolding stored
stored_same zero i t = refl
stored_same (suc n) i t = go (stored_same n (suc i) t) (dec_lt i (length t))
  where
    go : sets t (suc i) (take n (drop (suc i) t)) ≡ t → Dec (i < length t) → sets t i (take (suc n) (drop i t)) ≡ t
    go e (yes h) =
        ap (λ (x : List ℕ). sets t i (take (suc n) x)) (drop-cons t i 0 h)
        ∙ ap (λ (l : List ℕ). sets l (suc i) (take n (drop (suc i) t))) (set-get_or t i 0) ∙ e
    go e (no h) = rw (drop_of_length-le t {i = i} (omega arith))

stored-set : (m : List ℕ) (j k y : ℕ) (a : List ℕ) → j < k → set (stored m k a) j y ≡ stored (set m j y) k a
unfolding stored
stored-set m j k y [] h = refl
stored-set m j k y (x ∷ a) h = stored-set (set m k x) j (suc k) y a (omega arith) ∙ ap (λ (l : List ℕ). sets l (suc k) a) (set_comm m k j x y (omega arith))

-- what is stored over at least as much as before
pub stored_over : (l : List ℕ) (j : ℕ) (a b : List ℕ) → length a ≤ length b → stored (stored l j a) j b ≡ stored l j b
unfolding stored
stored_over l j [] b h = refl
stored_over l j (x ∷ a) [] h = absurd (omega arith)
stored_over l j (x ∷ a) (y ∷ b) h =
    ap (λ (m : List ℕ). sets m (suc j) b) (stored-set (set l j x) j (suc j) y a (omega arith) ∙ ap (λ (m : List ℕ). sets m (suc j) a) (set-set l j x y))
    ∙ stored_over (set l j y) (suc j) a b (omega arith)

pub drop-stored : (l : List ℕ) (j : ℕ) (a : List ℕ) → j + length a ≤ length l → drop j (stored l j a) ≡ a ++ drop (j + length a) l
unfolding stored
drop-stored l j a h = rw (sets-eq a l j h, append_assoc) (drop_at (take j l) (a ++ drop (j + length a) l) j (length-take-le j l (omega arith)))

-- ---- little-endian numbers

pub length-le_bytes : (n x : ℕ) → length (le_bytes n x) ≡ n
unfolding le_bytes
length-le_bytes zero x = refl
length-le_bytes (suc n) x = ap suc (length-le_bytes n (x / 256))

pub le_value-le_bytes : (n x : ℕ) → x < 256 ^ n → le_value (le_bytes n x) ≡ x
unfolding le_bytes le_value
le_value-le_bytes zero x h = omega arith
le_value-le_bytes (suc n) x h =
    ap (λ (y : ℕ). y * 256 + x % 256) (le_value-le_bytes n (x / 256) (rest (256 ^ n) (rw (pow-suc 256 n) at h)))
    ∙ div-add-mod' x 256
  where
    rest : (m : ℕ) → x < m * 256 → x / 256 < m
    rest m k = omega arith

-- byte k, as code computes it
pub le_bytes-at : (n x k : ℕ) → k < n → get_or (le_bytes n x) k 0 ≡ x / 256 ^ k % 256
unfolding le_bytes
le_bytes-at zero x k h = absurd (omega arith)
le_bytes-at (suc n) x zero h = ap (λ (y : ℕ). y % 256) (let e : x ≡ x / 1 = omega arith in e)
le_bytes-at (suc n) x (suc k) h =
    le_bytes-at n (x / 256) k (omega arith) ∙ ap (λ (y : ℕ). y % 256) (shift x (256 ^ k) ∙ ap (λ (y : ℕ). x / y) (sym (pow-succ' 256 k)))
  where
    shift : (x m : ℕ) → x / 256 / m ≡ x / (256 * m)
    shift x m = div-div-eq-div-mul x 256 m

-- ---- equality as a test
pub both_true : (a b : Bool) → both a b ≡ true → (a ≡ true) × (b ≡ true)
both_true true b e = (refl, e)
both_true false b e = absurd (let z : ◌≡◌ {A = ℕ} 0 1 = cc in omega arith)

pub same_true : (a b : List ℕ) → same a b ≡ true → a ≡ b
unfolding same
same_true [] [] e = refl
same_true [] (y ∷ b) e = absurd (let z : ◌≡◌ {A = ℕ} 0 1 = cc in omega arith)
same_true (x ∷ a) [] e = absurd (let z : ◌≡◌ {A = ℕ} 0 1 = cc in omega arith)
same_true (x ∷ a) (y ∷ b) e =
    let p = both_true (eqb x y) (same a b) e in
    ap₂ (λ (h : ℕ) (t : List ℕ). h ∷ t) (eqb-true x y p.0) (same_true a b p.1)

pub same_refl : (a : List ℕ) → same a a ≡ true
unfolding same
same_refl [] = refl
same_refl (x ∷ a) = rw (eq-eqb x x refl) (same_refl a)
