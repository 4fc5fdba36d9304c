-- What the questions of an equality table leave known, its length as code computes it, and its growth by a coordinate. Rests on the
-- doubling of field_runs and on the equality table's laws in theory_multilinear.
use mathlib.Core.Path.{◌≡◌, sym, ap, ap₂, ◌∙◌}
use mathlib.Core.List.{List, [], ◌∷◌, ◌++◌, map, append_assoc}
use Prim.Native.Nat.{ℕ, suc, ◌+◌, ◌*◌, ◌^◌, ◌≤◌, ◌<◌}
use native.Mathlib.Numerals.{add-one}
use native.Mathlib.Omega.{arith}
use borrow.Author.Tests.{leb-true, eqb-true}
use lib.ListN.{length, take, drop, set, length-append, length-map}
use lib.Pow.{pow_mono}
use lib.Seq.{take_at, take-suc, take_all, length-take-le}
use Rattle.theory_laws.specs.Table.{tab, at}
use Rattle.theory_laws.specs.Xor.{◌⊕◌}
use Rattle.theory_laws.proofs.Questions.{all_yes}
use Rattle.theory_field.specs.Field.{◌⊗◌}
use Rattle.theory_multilinear.specs.Equality.{eq_table}
use Rattle.theory_multilinear.proofs.Equality.{eq-nil, eq-double, low-entries}
use Rattle.field_runs.specs.Runs.{doubled}
use Rattle.field_equality.specs.Eq.{eq_questions, eq_number}
use Rattle.field_equality.specs.helpers.Sizes.{Sizes}

-- there is room to double the table of fewer coordinates
pub room : (i n len : ℕ) → i < n → len ≡ 2 ^ i → len + len ≤ 2 ^ n
room i n len h e = let p : 2 ^ suc i ≤ 2 ^ n = pow_mono {i = suc i} h in omega arith

-- once every question said yes
pub sizes : (n point out q : ℕ) → q ≡ eq_number n point out → q ≡ 0 → Sizes n point out
unfolding eq_number
sizes n point out q f z =
    let y = all_yes (eq_questions n point out) tt (sym f ∙ z) in
    record {
      coordinates = leb-true n 20 y.0;
      of_point = eqb-true point (2 * n) y.1.0;
      of_table = eqb-true out (2 * 2 ^ n) y.1.1.0;
    }

-- ---- by one more coordinate

-- the lower half, as code computes it
-- a list that begins with the table of zs, doubled
pub doubled_table : (zs : List ℕ) (z n : ℕ) (ws : List ℕ) → n + n ≤ length ws → take n ws ≡ eq_table zs
    → take (n + n) (doubled n z ws) ≡ eq_table (zs ++ (z ∷ []))
unfolding doubled
doubled_table zs z n ws h e =
    ap (take (n + n)) (sym (append_assoc low high (drop (n + n) ws)))
    ∙ take_at (low ++ high) (drop (n + n) ws) (n + n) size
    ∙ ap (λ (t : List ℕ). map (λ x. x ⊕ x ⊗ z) t ++ map (λ x. x ⊗ z) t) e
    ∙ ap (λ (t : List ℕ). t ++ map (λ x. x ⊗ z) (eq_table zs)) (low-entries zs z)
    ∙ sym (eq-double zs z)
  where
    low : List ℕ
    low = map (λ x. x ⊕ x ⊗ z) (take n ws)

    high : List ℕ
    high = map (λ x. x ⊗ z) (take n ws)

    size : length (low ++ high) ≡ n + n
    size = rw (length-append low high, length-map (take n ws) (λ x. x ⊕ x ⊗ z), length-map (take n ws) (λ x. x ⊗ z), length-take-le n ws (omega arith))

-- ---- a loop over the coordinates of a point

-- ws begins with the table of the first i coordinates
abbrev pub Begins : List ℕ → ℕ → List ℕ → Type 0
Begins point i ws = take (2 ^ i) ws ≡ eq_table (take i point)

-- before its first turn
pub begins-none : (point ws vs : List ℕ) → 0 < length ws → vs ≡ set ws 0 1 → Begins point 0 vs
unfolding eq_table tab
begins-none point [] vs h e = absurd (omega arith)
begins-none point (w ∷ ws) vs h e = ap (take 1) e ∙ ap (λ (x : ℕ). x ∷ []) (sym (eq-nil 0))

-- a turn
pub begins-more : (point ws vs : List ℕ) (i n z : ℕ) → i < length point → n ≡ 2 ^ i → n + n ≤ length ws → z ≡ at point i → vs ≡ doubled n z ws
    → Begins point i ws → Begins point (i + 1) vs
begins-more point ws vs i n z h e room f g b =
    ap₂ take size g ∙ doubled_table (take i point) z n ws room (ap (λ (m : ℕ). take m ws) e ∙ b)
    ∙ ap eq_table (ap (λ (x : ℕ). take i point ++ (x ∷ [])) f ∙ sym (take-suc point i 0 h) ∙ ap (λ (m : ℕ). take m point) (sym (add-one i)))
  where
    size : 2 ^ (i + 1) ≡ n + n
    size = rw (add-one i) (omega arith)

-- after its last turn
pub begins-all : (point ws : List ℕ) (i : ℕ) → length point ≡ i → length ws ≡ 2 ^ i → Begins point i ws → ws ≡ eq_table point
begins-all point ws i p w b = sym (take_all (2 ^ i) ws (omega arith)) ∙ b ∙ ap eq_table (take_all i point (omega arith))
