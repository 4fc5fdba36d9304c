-- A fold in place, the results going to the front: what holds once the first q are written.
use mathlib.Core.Path.{◌≡◌, refl, ap₂, ◌∙◌}
use mathlib.Core.Logic.{⊎_elim}
use mathlib.Core.List.{List}
use Prim.Native.Nat.{ℕ, zero, suc, ◌/◌, ◌≤◌, ◌<◌}
use native.Mathlib.Nat.{eq-or-lt_of_le}
use native.Mathlib.Omega.{arith}
use lib.ListN.{length, set}
use lib.Seq.{get_or-set_same, get_or-set_other}
use Rattle.theory_laws.specs.Table.{at}
use Rattle.theory_laws.specs.Places.{ins}
use Rattle.theory_laws.proofs.Places.{ins-hi}
use Rattle.theory_multilinear.specs.Fold.{line, fold_at}

-- a pair's places are not before the place that its result goes to
pub ins_ge : (i q : ℕ) → q ≤ ins i 0 q
unfolding ins
ins_ge zero q = omega arith
ins_ge (suc i) q = omega (arith, ins_ge i (q / 2))

pub record Folded (i r : ℕ) (t : ℕ → ℕ) (q : ℕ) (l : List ℕ) : Type 0 where
  pub done : (v : ℕ) → v < q → at l v ≡ fold_at i r t v
  pub rest : (v : ℕ) → q ≤ v → at l v ≡ t v

pub fold_start : (i r : ℕ) (l : List ℕ) → Folded i r (at l) 0 l
fold_start i r l = record { done = λ v h. absurd (omega arith); rest = λ v h. refl }

pub fold_step : (i r : ℕ) (t : ℕ → ℕ) (q : ℕ) (l : List ℕ) → Folded i r t q l → q < length l
    → Folded i r t (suc q) (set l q (line r (at l (ins i 0 q)) (at l (ins i 1 q))))
unfolding fold_at
fold_step i r t q l D h =
    record {
      done = λ v k. ⊎_elim (λ e. rw e (get_or-set_same l q x 0 h ∙ ap₂ (line r) lo hi))
          (λ g. get_or-set_other l q v x 0 (omega arith) ∙ D.done v g) (eq-or-lt_of_le {n = v} {m = q} (omega arith));
      rest = λ v k. get_or-set_other l q v x 0 (omega arith) ∙ D.rest v (omega arith);
    }
  where
    x : ℕ
    x = line r (at l (ins i 0 q)) (at l (ins i 1 q))

    lo : at l (ins i 0 q) ≡ t (ins i 0 q)
    lo = D.rest (ins i 0 q) (ins_ge i q)

    hi : at l (ins i 1 q) ≡ t (ins i 1 q)
    hi = D.rest (ins i 1 q) (omega (arith, ins_ge i q, ins-hi i q))
