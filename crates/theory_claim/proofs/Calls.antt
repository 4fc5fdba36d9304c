-- What a list of fold calls leaves is what its done folds leave, one after another, of the codeword and of its list: so the codeword after l done folds
-- at variable 0 is level l, and its list has the coordinates from l on.
use Prim.Native.Nat.{ℕ, zero, suc, ◌+◌, ◌-◌, ◌*◌, ◌/◌, ◌^◌, ◌≤◌, ◌<◌}
use mathlib.Core.Path.{◌≡◌, refl, sym, ◌∙◌, ap, subst}
use mathlib.Core.Bool.{Bool, true, false}
use mathlib.Core.List.{List, [], ◌∷◌, ◌++◌}
use native.Mathlib.Omega.{arith}
use borrow.Author.Tests.{le-leb, eq-eqb, lt-ltb, eqb-true, ltb-true}
use lib.Dec.{eqb}
use lib.ListN.{length, take, drop}
use lib.Seq.{take_all, length-take-le}
use Rattle.theory_laws.specs.Questions.{pick}
use Rattle.theory_laws.proofs.Questions.{yes_all, all_yes, true_both}
use Rattle.theory_laws.proofs.Lists.{both_true}
use Rattle.theory_multilinear.specs.Folds.{Fold, folds_list, Folds, none, more, at_first, dropped_at, remaining}
use Rattle.theory_multilinear.specs.Codeword.{all_coordinates}
use Rattle.theory_multilinear.specs.Levels.{level}
use Rattle.theory_multilinear.proofs.Fold.{length-fold_list}
use Rattle.theory_multilinear.proofs.Folds.{length-dropped_at, remaining-first}
use Rattle.theory_multilinear.proofs.Levels.{level-folds}
use Rattle.theory_code.specs.Questions.{rising, shift_questions, shift_number, fold_questions, fold_number}
use Rattle.theory_code.proofs.Rising.{rising-parts, rising-more, rising-less, rising-tab}
use Rattle.theory_claim.specs.Calls.{Codeword, Call, call_number, call_fold, done_folds, after_folds, left_by}

-- what folds leave of a codeword in use
abbrev pub left_of : List Fold → Codeword → Codeword
left_of fs c = record { values = folds_list fs c.values; coordinates = remaining fs c.coordinates }

-- the codeword after l done folds is what the first l of them leave
after-done : (calls : List Call) (c : Codeword) (l : ℕ) → l ≤ length (done_folds c calls) → after_folds c calls l ≡ left_of (take l (done_folds c calls)) c
unfolding call_fold done_folds after_folds folds_list remaining
after-done calls c zero h = refl
after-done [] c (suc l) h = absurd (omega arith)
after-done (x ∷ xs) c (suc l) h = go (eqb (call_number c x) 0) (λ g. after-done xs (call_fold c x) l g) (λ g. after-done xs c (suc l) g) h
  where
    folds : Bool → List Fold
    folds b = pick b (record { var = x.var; by = x.by } ∷ done_folds (call_fold c x) xs) (done_folds c xs)

    go : (b : Bool)
        → (l ≤ length (done_folds (call_fold c x) xs) → after_folds (call_fold c x) xs l ≡ left_of (take l (done_folds (call_fold c x) xs)) (call_fold c x))
        → (suc l ≤ length (done_folds c xs) → after_folds c xs (suc l) ≡ left_of (take (suc l) (done_folds c xs)) c)
        → suc l ≤ length (folds b) → pick b (after_folds (call_fold c x) xs l) (after_folds c xs (suc l)) ≡ left_of (take (suc l) (folds b)) c
    go true f s g = f (omega arith)
    go false f s g = s g

-- the whole list leaves what all of them leave
pub left-done : (calls : List Call) (c : Codeword) → left_by c calls ≡ left_of (done_folds c calls) c
unfolding call_fold done_folds left_by folds_list remaining
left-done [] c = refl
left-done (x ∷ xs) c = go (eqb (call_number c x) 0) (left-done xs (call_fold c x)) (left-done xs c)
  where
    go : (b : Bool) → left_by (call_fold c x) xs ≡ left_of (done_folds (call_fold c x) xs) (call_fold c x) → left_by c xs ≡ left_of (done_folds c xs) c
        → left_by (pick b (call_fold c x) c) xs ≡ left_of (pick b (record { var = x.var; by = x.by } ∷ done_folds (call_fold c x) xs) (done_folds c xs)) c
    go true f s = f
    go false f s = s

-- so the codeword after all done folds is what is left
pub after-all : (calls : List Call) (c : Codeword) → after_folds c calls (length (done_folds c calls)) ≡ left_by c calls
after-all calls c =
    after-done calls c (length (done_folds c calls)) (omega arith)
    ∙ ap (λ (fs : List Fold). left_of fs c) (take_all (length (done_folds c calls)) (done_folds c calls) (omega arith)) ∙ sym (left-done calls c)

-- ---- all at variable 0

take-at_first : (l : ℕ) (r : List ℕ) → take l (at_first r) ≡ at_first (take l r)
take-at_first zero r = refl
take-at_first (suc l) [] = refl
take-at_first (suc l) (x ∷ r) = ap (λ (fs : List Fold). record { var = 0; by = x } ∷ fs) (take-at_first l r)

length-at_first : (r : List ℕ) → length (at_first r) ≡ length r
length-at_first [] = refl
length-at_first (x ∷ r) = ap suc (length-at_first r)

module _ (calls : List Call) (c : Codeword) (r : List ℕ) (done : done_folds c calls ≡ at_first r) where
  after_first : (l : ℕ) → l ≤ length r → after_folds c calls l ≡ left_of (at_first (take l r)) c
  after_first l h =
      after-done calls c l (rw done (omega (arith, length-at_first r)))
      ∙ ap (λ (fs : List Fold). left_of (take l fs) c) done ∙ ap (λ (fs : List Fold). left_of fs c) (take-at_first l r)

  pub after-level : (l : ℕ) → l ≤ length r → (after_folds c calls l).values ≡ level c.values r l
  after-level l h = ap (λ (d : Codeword). d.values) (after_first l h) ∙ sym (level-folds l c.values r h)

  pub after_list : (l : ℕ) → l ≤ length r → (after_folds c calls l).coordinates ≡ drop l c.coordinates
  after_list l h =
      ap (λ (d : Codeword). d.coordinates) (after_first l h) ∙ remaining-first (take l r) c.coordinates
      ∙ ap (λ (m : ℕ). drop m c.coordinates) (length-take-le l r h)

  pub left-level : (left_by c calls).values ≡ level c.values r (length r)
  left-level = ap (λ (d : Codeword). d.values) (left-done calls c) ∙ ap (λ (fs : List Fold). folds_list fs c.values) done
      ∙ ap (λ (rs : List ℕ). folds_list (at_first rs) c.values) (sym (take_all (length r) r (omega arith)))
      ∙ sym (level-folds (length r) c.values r (omega arith))

-- ---- a done call is at a variable that is still there

pub fold-there : (n k original var : ℕ) (coordinates : List ℕ) (src out : ℕ) → fold_number n k original var coordinates src out ≡ 0 → var < length coordinates
unfolding fold_number
fold-there n k original var coordinates src out z =
    let y = all_yes (fold_questions n k original var coordinates src out) tt z in
    let long = eqb-true (length coordinates) n (both_true (eqb (length coordinates) n) (rising 0 original coordinates) y.1.1.1.1.1.0).0 in
    omega (arith, ltb-true var n y.1.1.1.1.1.1.0)

-- so that the done ones are folds one after another, from the coordinates that there are to those that are left
pub done-folds : (calls : List Call) (c : Codeword) → Folds (length c.coordinates) (length (left_by c calls).coordinates) (done_folds c calls)
unfolding call_number call_fold done_folds left_by
done-folds [] c = none
done-folds (x ∷ xs) c = go (eqb (call_number c x) 0) refl (done-folds xs (call_fold c x)) (done-folds xs c)
  where
    f : Fold
    f = record { var = x.var; by = x.by }

    there : ℕ → List Fold → Type 0
    there m fs = Folds (length c.coordinates) m fs

    first : (m : ℕ) (fs : List Fold) → call_number c x ≡ 0 → Folds (length (call_fold c x).coordinates) m fs → there m (f ∷ fs)
    first m fs z hs =
        let h = fold-there x.n x.k x.original x.var c.coordinates (2 * length c.values) x.room z in
        let e = length-dropped_at x.var c.coordinates h in
        subst (λ (i : ℕ). Folds i m (f ∷ fs)) e (more (omega arith) hs)

    go : (b : Bool) → eqb (call_number c x) 0 ≡ b
        → Folds (length (call_fold c x).coordinates) (length (left_by (call_fold c x) xs).coordinates) (done_folds (call_fold c x) xs)
        → there (length (left_by c xs).coordinates) (done_folds c xs)
        → there (length (left_by (pick b (call_fold c x) c) xs).coordinates) (pick b (f ∷ done_folds (call_fold c x) xs) (done_folds c xs))
    go true e hs s = first _ _ (eqb-true _ 0 e) hs
    go false e hs s = s

pub folds-count : {n m : ℕ} (fs : List Fold) → Folds n m fs → n ≡ length fs + m
folds-count [] none = omega arith
folds-count (f ∷ fs) (more h hs) = omega (arith, folds-count fs hs)

-- with no coordinate left none is done
pub none_done : (calls : List Call) (c : Codeword) → c.coordinates ≡ [] → done_folds c calls ≡ []
none_done calls c e = no_folds (done_folds c calls) (omega (arith, ap length e, folds-count (done_folds c calls) (done-folds calls c)))
  where
    no_folds : (fs : List Fold) → length fs ≡ 0 → fs ≡ []
    no_folds [] h = refl
    no_folds (f ∷ fs) h = absurd (omega arith)

-- ---- refused calls change nothing

-- a refused call at the front
pub skip : (c : Codeword) (x : Call) (xs : List Call) → (call_number c x ≡ 0 → ⊥) → done_folds c (x ∷ xs) ≡ done_folds c xs
unfolding done_folds
skip c x xs bad = go (eqb (call_number c x) 0) refl
  where
    go : (b : Bool) → eqb (call_number c x) 0 ≡ b → pick b (record { var = x.var; by = x.by } ∷ done_folds (call_fold c x) xs) (done_folds c xs) ≡ done_folds c xs
    go true e = absurd (bad (eqb-true _ _ e))
    go false e = refl

-- and anywhere in a list
pub refused-among : (before after : List Call) (c : Codeword) (x : Call) → (call_number (left_by c before) x ≡ 0 → ⊥)
    → done_folds c (before ++ x ∷ after) ≡ done_folds c (before ++ after)
unfolding done_folds left_by
refused-among [] after c x bad = skip c x after bad
refused-among (y ∷ before) after c x bad =
    go (eqb (call_number c y) 0) (λ f. refused-among before after (call_fold c y) x f) (λ f. refused-among before after c x f) bad
  where
    folds : Bool → List Call → List Fold
    folds b xs = pick b (record { var = y.var; by = y.by } ∷ done_folds (call_fold c y) xs) (done_folds c xs)

    go : (b : Bool)
        → ((call_number (left_by (call_fold c y) before) x ≡ 0 → ⊥) → done_folds (call_fold c y) (before ++ x ∷ after) ≡ done_folds (call_fold c y) (before ++ after))
        → ((call_number (left_by c before) x ≡ 0 → ⊥) → done_folds c (before ++ x ∷ after) ≡ done_folds c (before ++ after))
        → (call_number (left_by (pick b (call_fold c y) c) before) x ≡ 0 → ⊥) → folds b (before ++ x ∷ after) ≡ folds b (before ++ after)
    go true f s h = ap (λ (fs : List Fold). record { var = y.var; by = y.by } ∷ fs) (f h)
    go false f s h = s h

-- a call with n = 21 is refused whatever it is lent
pub refused_exist : (c : Codeword) → (x : Call) × (call_number c x ≡ 4)
unfolding call_number fold_number
refused_exist c = (record { n = 21; k = 0; original = 0; var = 0; by = 0; room = 0 }, refl)

-- ---- there are calls that do folds at variables that are still there

-- 2^j halved
pub half_power : (i j : ℕ) → j ≡ suc i → 2 ^ j / 2 ≡ 2 ^ i
half_power i j e = rw e (omega arith)

-- a fold that is lent what it asks for
pub record FoldLent (n k original var : ℕ) (coordinates : List ℕ) (src out : ℕ) : Type 0 where
  pub n_most : n ≤ 20
  pub k_most : k ≤ 4
  pub original_most : original ≤ 20
  pub src_long : src ≡ 2 * 2 ^ (n + k)
  pub out_long : out ≡ 2 * (2 ^ (n + k) / 2)
  pub list_long : length coordinates ≡ n
  pub list_rises : rising 0 original coordinates ≡ true
  pub below : var < n

pub fold-lent : (n k original var : ℕ) (coordinates : List ℕ) (src out : ℕ) → FoldLent n k original var coordinates src out
    → fold_number n k original var coordinates src out ≡ 0
unfolding fold_number
fold-lent n k original var coordinates src out z =
    let list = true_both (eqb (length coordinates) n) (rising 0 original coordinates) (eq-eqb (length coordinates) n z.list_long) z.list_rises in
    yes_all (fold_questions n k original var coordinates src out) (
      le-leb n 20 z.n_most,
      (
        le-leb k 4 z.k_most,
        (
          le-leb original 20 z.original_most,
          (eq-eqb src _ z.src_long, (eq-eqb out _ z.out_long, (list, (lt-ltb var n z.below, tt)))),
        ),
      ),
    )

-- one call for each fold, with the n that is left, and room for half of the codeword
abbrev call_by : ℕ → ℕ → ℕ → Fold → Call
call_by k original m f = record { n = m; k = k; original = original; var = f.var; by = f.by; room = 2 * (2 ^ (m + k) / 2) }

unfoldable calls_by : ℕ → ℕ → ℕ → List Fold → List Call
calls_by k original m [] = []
calls_by k original m (f ∷ fs) = call_by k original m f ∷ calls_by k original (m - 1) fs

-- a codeword in use of m coordinates
pub record InUse (k original m : ℕ) (c : Codeword) : Type 0 where
  pub m-most : m ≤ 20
  pub k_most : k ≤ 4
  pub original_most : original ≤ 20
  pub values-long : length c.values ≡ 2 ^ (m + k)
  pub list_long : length c.coordinates ≡ m
  pub list_rises : rising 0 original c.coordinates ≡ true

call_done : (k original m : ℕ) (c : Codeword) (f : Fold) → InUse k original m c → f.var < m → call_number c (call_by k original m f) ≡ 0
unfolding call_number
call_done k original m c f z h =
    fold-lent m k original f.var c.coordinates (2 * length c.values) (2 * (2 ^ (m + k) / 2))
    (record {
      n_most = z.m-most;
      k_most = z.k_most;
      original_most = z.original_most;
      src_long = ap (λ (y : ℕ). 2 * y) z.values-long;
      out_long = refl;
      list_long = z.list_long;
      list_rises = z.list_rises;
      below = h;
    })

-- the list of a committed codeword
pub rising-all : (n : ℕ) → rising 0 n (all_coordinates n) ≡ true
rising-all n = rising-tab n 0 n (λ i. i) (λ i h. omega arith) (omega arith)

-- an entry dropped
rising_without : (i least bound : ℕ) (xs : List ℕ) → rising least bound xs ≡ true → rising least bound (dropped_at i xs) ≡ true
unfolding dropped_at
rising_without i least bound [] e = e
rising_without zero least bound (x ∷ xs) e =
    let p = rising-parts least bound x xs e in rising-less least (suc x) bound xs (omega (arith, p.0)) p.2
rising_without (suc i) least bound (x ∷ xs) e =
    let p = rising-parts least bound x xs e in rising-more least bound x (dropped_at i xs) p.0 p.1 (rising_without i (suc x) bound xs p.2)

-- entries dropped, one after another
pub rising-remaining : (fs : List Fold) (least bound : ℕ) (xs : List ℕ) → rising least bound xs ≡ true → rising least bound (remaining fs xs) ≡ true
unfolding remaining
rising-remaining [] least bound xs e = e
rising-remaining (f ∷ fs) least bound xs e = rising-remaining fs least bound (dropped_at f.var xs) (rising_without f.var least bound xs e)

-- L read from a list that rises
pub shift-lent : (n k original : ℕ) (coordinates : List ℕ) (gammas out : ℕ) → n ≤ 20 → k ≤ 4 → original ≤ 20 → gammas ≡ 2 * (k * original) → out ≡ 2 * n
    → length coordinates ≡ n → rising 0 original coordinates ≡ true → shift_number n k original coordinates gammas out ≡ 0
unfolding shift_number
shift-lent n k original coordinates gammas out hn hk ho eg eo el er =
    let list = true_both (eqb (length coordinates) n) (rising 0 original coordinates) (eq-eqb (length coordinates) n el) er in
    yes_all (shift_questions n k original coordinates gammas out)
    (le-leb n 20 hn, (le-leb k 4 hk, (le-leb original 20 ho, (eq-eqb gammas _ eg, (eq-eqb out _ eo, (list, tt))))))

-- what such a call leaves is one of a coordinate less
call_leaves : (k original m : ℕ) (c : Codeword) (f : Fold) → InUse k original (suc m) c → f.var ≤ m → InUse k original m (call_fold c (call_by k original (suc m) f))
unfolding call_fold
call_leaves k original m c f z h =
    let e = length-dropped_at f.var c.coordinates (omega (arith, z.list_long)) in
    record {
      m-most = omega (arith, z.m-most);
      k_most = z.k_most;
      original_most = z.original_most;
      values-long = length-fold_list f.var f.by c.values ∙ ap (λ (y : ℕ). y / 2) z.values-long ∙ half_power (m + k) (suc m + k) (omega arith);
      list_long = omega (arith, z.list_long);
      list_rises = rising_without f.var 0 original c.coordinates z.list_rises;
    }

calls_by_lem : {n m : ℕ} (k original : ℕ) (fs : List Fold) (c : Codeword) → InUse k original n c → Folds n m fs → done_folds c (calls_by k original n fs) ≡ fs
unfolding calls_by done_folds
calls_by_lem k original [] c z none = refl
calls_by_lem k original (f ∷ fs) c z (more {n = n} h hs) =
    let left : suc n - 1 ≡ n = omega arith in
    rw (eq-eqb _ 0 (call_done k original (suc n) c f z (omega arith)), left)
    (ap (λ (gs : List Fold). f ∷ gs) (calls_by_lem k original fs (call_fold c (call_by k original (suc n) f)) (call_leaves k original n c f z h) hs))

pub calls_exist : {n m : ℕ} (k original : ℕ) (fs : List Fold) (c : Codeword) → InUse k original n c → Folds n m fs
    → (calls : List Call) × (done_folds c calls ≡ fs)
calls_exist {n} k original fs c z hs = (calls_by k original n fs, calls_by_lem k original fs c z hs)
