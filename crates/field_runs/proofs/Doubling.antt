-- The doubling of an equality table as a loop does it, in one list: what holds once the first q entries are done; and that it is
-- the table of the point with one more coordinate.
use mathlib.Core.Path.{◌≡◌, refl, sym, ap, ap₂, ◌∙◌}
use mathlib.Core.Logic.{⊎_elim}
use mathlib.Core.List.{List, [], ◌∷◌, ◌++◌, map, append_assoc}
use Prim.Native.Nat.{ℕ, ◌+◌, ◌-◌, ◌^◌, ◌≤◌, ◌<◌}
use native.Mathlib.Nat.{eq-or-lt_of_le}
use native.Mathlib.Omega.{arith}
use lib.ListN.{length, take, drop, set, length-set, length-drop, take-append-drop}
use lib.Seq.{get_or-set_same, get_or-set_other, get_or-drop, drop-drop, ext_get_or, take_at}
use Rattle.theory_laws.specs.Xor.{◌⊕◌}
use Rattle.theory_laws.specs.Table.{at}
use Rattle.theory_laws.proofs.Table.{tab-ext, map-tab, length-tab, take-tab}
use Rattle.theory_field.specs.Field.{◌⊗◌}
use Rattle.theory_multilinear.specs.Equality.{eq_at, eq_table}
use Rattle.theory_multilinear.proofs.Equality.{eq-double, low-entries}
use Rattle.field_runs.specs.Runs.{doubled, doubled_at}

pub record Doubling (n z q : ℕ) (ws vs : List ℕ) : Type 0 where
  pub size : length vs ≡ length ws
  pub low : (v : ℕ) → v < q → at vs v ≡ at ws v ⊕ at ws v ⊗ z
  pub high : (v : ℕ) → v < q → at vs (n + v) ≡ at ws v ⊗ z
  pub ahead : (v : ℕ) → q ≤ v → v < n → at vs v ≡ at ws v
  pub past : (v : ℕ) → n + n ≤ v → at vs v ≡ at ws v

pub doubling_start : (n z : ℕ) (ws : List ℕ) → Doubling n z 0 ws ws
doubling_start n z ws =
    record {
      size = refl;
      low = λ v h. absurd (omega arith);
      high = λ v h. absurd (omega arith);
      ahead = λ v h k. refl;
      past = λ v h. refl;
    }

-- a turn, at entry q
module _ (n z q : ℕ) (ws vs : List ℕ) (q< : q < n) (room : n + n ≤ length vs) (D : Doubling n z q ws vs) where
  e : at vs q ≡ at ws q
  e = D.ahead q (omega arith) q<

  -- away from the two places all is as it was
  other : (v : ℕ) → (v ≡ q → ⊥) → (v ≡ n + q → ⊥) → at (doubled_at q n z vs) v ≡ at vs v
  other v a b =
      get_or-set_other (set vs (n + q) (at vs q ⊗ z)) q v (at vs q ⊕ at vs q ⊗ z) 0 a
      ∙ get_or-set_other vs (n + q) v (at vs q ⊗ z) 0 b

  at_low : at (doubled_at q n z vs) q ≡ at ws q ⊕ at ws q ⊗ z
  at_low =
      get_or-set_same (set vs (n + q) (at vs q ⊗ z)) q (at vs q ⊕ at vs q ⊗ z) 0 (rw length-set (omega arith))
      ∙ ap (λ x. x ⊕ x ⊗ z) e

  at_high : at (doubled_at q n z vs) (n + q) ≡ at ws q ⊗ z
  at_high =
      get_or-set_other (set vs (n + q) (at vs q ⊗ z)) q (n + q) (at vs q ⊕ at vs q ⊗ z) 0 (omega arith)
      ∙ get_or-set_same vs (n + q) (at vs q ⊗ z) 0 (omega arith) ∙ ap (λ x. x ⊗ z) e

  pub doubling_step : Doubling n z (q + 1) ws (doubled_at q n z vs)
  doubling_step =
      record {
        size = simp length-set D.size;
        low = λ v h. ⊎_elim (λ (p : v ≡ q). rw p at_low)
            (λ l. other v (omega arith) (omega arith) ∙ D.low v l) (eq-or-lt_of_le {n = v} {m = q} (omega arith));
        high = λ v h. ⊎_elim (λ (p : v ≡ q). rw p at_high)
            (λ l. other (n + v) (omega arith) (omega arith) ∙ D.high v l) (eq-or-lt_of_le {n = v} {m = q} (omega arith));
        ahead = λ v h k. other v (omega arith) (omega arith) ∙ D.ahead v (omega arith) k;
        past = λ v h. other v (omega arith) (omega arith) ∙ D.past v h;
      }

-- a part of n words whose entries are f of those of another
same-part : (n : ℕ) (f : ℕ → ℕ) (us ws : List ℕ) → n ≤ length us → n ≤ length ws → ((v : ℕ) → v < n → at us v ≡ f (at ws v))
    → take n us ≡ map f (take n ws)
same-part n f us ws hu hw h = take-tab n us hu ∙ tab-ext n h ∙ sym (ap (map f) (take-tab n ws hw) ∙ map-tab f n (at ws))

pub doubling_end : (n z : ℕ) (ws vs : List ℕ) → n + n ≤ length ws → Doubling n z n ws vs → vs ≡ doubled n z ws
unfolding doubled
doubling_end n z ws vs room D = sym (take-append-drop n vs) ∙ ap₂ ◌++◌ low (sym (take-append-drop n (drop n vs)) ∙ ap₂ ◌++◌ high rest)
  where
    low : take n vs ≡ map (λ e. e ⊕ e ⊗ z) (take n ws)
    low = same-part n (λ e. e ⊕ e ⊗ z) vs ws (omega (arith, D.size)) (omega arith) (λ v h. D.low v h)

    high : take n (drop n vs) ≡ map (λ e. e ⊗ z) (take n ws)
    high =
        same-part n (λ e. e ⊗ z) (drop n vs) ws (rw length-drop (omega (arith, D.size))) (omega arith)
        (λ v h. get_or-drop n vs v 0 ∙ D.high v h)

    rest : drop n (drop n vs) ≡ drop (n + n) ws
    rest =
        drop-drop n n vs
        ∙ ext_get_or 0 (drop (n + n) vs) (drop (n + n) ws) (simp length-drop (ap (λ l. l - (n + n)) D.size))
        (λ v h. get_or-drop (n + n) vs v 0 ∙ D.past (n + n + v) (omega arith) ∙ sym (get_or-drop (n + n) ws v 0))

-- ---- the equality table

length-eq_table : (z : List ℕ) → length (eq_table z) ≡ 2 ^ length z
unfolding eq_table
length-eq_table z = length-tab (2 ^ length z) (eq_at z)

-- where a list begins with the table of a point, its doubling by z begins with the table of the point with z after it
pub doubled-eq_table : (zs : List ℕ) (z : ℕ) (l : List ℕ) → take (2 ^ length zs) l ≡ eq_table zs
    → take (2 ^ length (zs ++ (z ∷ []))) (doubled (2 ^ length zs) z l) ≡ eq_table (zs ++ (z ∷ []))
unfolding doubled
doubled-eq_table zs z l e =
    rw e
    (ap (take (2 ^ length (zs ++ (z ∷ [])))) (sym (append_assoc (map (λ x. x ⊕ x ⊗ z) (eq_table zs)) (map (λ x. x ⊗ z) (eq_table zs)) tail)
    ∙ ap (λ (t : List ℕ). t ++ tail) whole)
    ∙ take_at (eq_table (zs ++ (z ∷ []))) tail (2 ^ length (zs ++ (z ∷ []))) (length-eq_table (zs ++ (z ∷ []))))
  where
    tail : List ℕ
    tail = drop (2 ^ length zs + 2 ^ length zs) l

    whole : map (λ x. x ⊕ x ⊗ z) (eq_table zs) ++ map (λ x. x ⊗ z) (eq_table zs) ≡ eq_table (zs ++ (z ∷ []))
    whole = ap (λ (t : List ℕ). t ++ map (λ x. x ⊗ z) (eq_table zs)) (low-entries zs z) ∙ sym (eq-double zs z)
