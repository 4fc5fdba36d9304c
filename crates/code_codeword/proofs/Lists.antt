-- The list of coordinates: the turns of the loops that test it and drop an entry.
use Prim.Native.Nat.{ℕ, zero, suc, ◌+◌, ◌-◌, ◌≤◌, ◌<◌}
use mathlib.Core.Path.{◌≡◌, refl, sym, ◌∙◌, ap, ap₂}
use mathlib.Core.Bool.{Bool, true, false}
use mathlib.Core.List.{List, [], ◌∷◌, ◌++◌, append_assoc}
use native.Mathlib.Numerals.{add-one}
use native.Mathlib.Omega.{arith}
use borrow.Author.Tests.{le-leb, lt-leb, lt-ltb, le-ltb, eq-eqb, ne_eqb}
use lib.Dec.{eqb}
use lib.ListN.{length, take, drop, get_or, set, length-drop, drop_of_length-le}
use lib.Seq.{drop-cons}
use Rattle.std.specs.List.{copy_within}
use Rattle.std.proofs.lemmas.List.Edits.{paste_all}
use Rattle.theory_laws.specs.Questions.{both}
use Rattle.theory_laws.specs.Table.{tab, at}
use Rattle.theory_laws.proofs.Table.{map_at}
use Rattle.theory_multilinear.specs.Codeword.{shift_at, shift_over}
use Rattle.theory_multilinear.specs.Folds.{dropped_at}
use Rattle.theory_multilinear.proofs.Folds.{length-dropped_at}
use Rattle.theory_code.specs.Questions.{rising}
use Rattle.code_codeword.specs.Answers.{dropped_of}

-- ---- whether the numbers rise: what is left of the list, from the least that may come, gives the answer

module _ (s : List ℕ) (i least bound : ℕ) (r : Bool) (e : rising least bound (drop i s) ≡ r) where
  pub rising-turn : i < length s → least ≤ get_or s i 0 → get_or s i 0 < bound → rising (get_or s i 0 + 1) bound (drop (i + 1) s) ≡ r
  unfolding rising
  rising-turn h low high = rw (add-one (get_or s i 0), add-one i) (rw (drop-cons s i 0 h, le-leb least (get_or s i 0) low, lt-ltb (get_or s i 0) bound high) at e)

  pub rising-low : i < length s → get_or s i 0 < least → false ≡ r
  unfolding rising
  rising-low h low = rw (drop-cons s i 0 h, lt-leb least (get_or s i 0) low) at e

  pub rising-high : i < length s → least ≤ get_or s i 0 → bound ≤ get_or s i 0 → false ≡ r
  unfolding rising
  rising-high h low high = rw (drop-cons s i 0 h, le-leb least (get_or s i 0) low, le-ltb (get_or s i 0) bound high) at e

  pub rising_end : length s ≤ i → true ≡ r
  unfolding rising
  rising_end h = rw (drop_of_length-le s h) at e

-- a list of another length, and of that one
pub long_no : (m n : ℕ) (b : Bool) → (m ≡ n → ⊥) → false ≡ both (eqb m n) b
long_no m n b h = rw (ne_eqb m n h)

pub long_yes : (m n : ℕ) (b r : Bool) → m ≡ n → r ≡ b → r ≡ both (eqb m n) b
long_yes m n b r h e = rw (eq-eqb m n h) e

-- ---- L(eps) at the entries of a list

pub over_entries : (n k : ℕ) (gammas list : List ℕ) (eps : ℕ) {ws : List ℕ} → ws ≡ tab (length list) (λ i. shift_at n k gammas eps (at list i))
    → ws ≡ shift_over n k gammas list eps
unfolding shift_over
over_entries n k gammas list eps e = e ∙ sym (map_at (shift_at n k gammas eps) list)

-- ---- an entry dropped: the entries behind it copied down, and the last one set to 0

without-entry : (var : ℕ) (old : List ℕ) → var < length old → dropped_at var old ≡ take var old ++ drop (suc var) old
unfolding dropped_at
without-entry var [] h = absurd (omega arith)
without-entry zero (x ∷ old) h = refl
without-entry (suc var) (x ∷ old) h = ap (λ (l : List ℕ). x ∷ l) (without-entry var old (omega arith))

set-last : (xs ys : List ℕ) (v : ℕ) → length ys ≡ 1 → set (xs ++ ys) (length xs) v ≡ xs ++ v ∷ []
set-last [] [] v h = absurd (omega arith)
set-last [] (y ∷ []) v h = refl
set-last [] (y ∷ (z ∷ ys)) v h = absurd (omega arith)
set-last (x ∷ xs) ys v h = ap (λ (l : List ℕ). x ∷ l) (set-last xs ys v h)

pub copied-down : (var : ℕ) (old list : List ℕ) → var < length old → list ≡ copy_within old (var + 1) (length old) var
    → set list (length old - 1) 0 ≡ dropped_of var old
unfolding dropped_of
copied-down var old list h e =
    let n : ℕ = length old - (var + 1) in
    let long : length (dropped_at var old) ≡ length old - 1 = omega (arith, length-dropped_at var old h) in
    let moved : list ≡ dropped_at var old ++ drop (var + n) old =
    e ∙ paste_all old var (drop (var + 1) old) n (sym (length-drop (var + 1) old))
    ∙ sym (append_assoc (take var old) (drop (var + 1) old) (drop (var + n) old))
    ∙ ap (λ (l : List ℕ). l ++ drop (var + n) old)
    (ap (λ (i : ℕ). take var old ++ drop i old) (add-one var) ∙ sym (without-entry var old h)) in
    let one : length (drop (var + n) old) ≡ 1 = omega (arith, length-drop (var + n) old) in
    ap₂ (λ (l : List ℕ) (i : ℕ). set l i 0) moved (sym long) ∙ set-last (dropped_at var old) (drop (var + n) old) 0 one
