-- A pass as a loop over pairs does it, in one list: what holds once the pairs below q are done.
use mathlib.Core.Path.{◌≡◌, refl, sym, ap, ◌∙◌}
use mathlib.Core.Logic.{◌≢◌, ⊎_elim}
use mathlib.Core.List.{List}
use Prim.Native.Nat.{ℕ, suc, ◌^◌, ◌≤◌, ◌<◌}
use native.Mathlib.Nat.{eq-or-lt_of_le}
use native.Mathlib.Omega.{arith}
use lib.Pow.{pow_pos}
use lib.ListN.{length, set, length-set}
use lib.Seq.{get_or-set_same, get_or-set_other}
use Rattle.theory_laws.specs.Xor.{◌⊕◌}
use Rattle.theory_laws.specs.Table.{tab, at}
use Rattle.theory_laws.specs.Places.{ins, del, flip}
use Rattle.theory_laws.proofs.Xor.{⊕_comm}
use Rattle.theory_laws.proofs.Table.{is-tab}
use Rattle.theory_laws.proofs.Places.{del-ins, del-lt, flip-lo, flip-hi, lo_or_hi, ins-hi, ins-lt}
use Rattle.theory_field.specs.Field.{◌⊗◌}
use Rattle.theory_multilinear.specs.Fold.{line}
use Rattle.theory_multilinear.proofs.Passes.{pass}

-- a list of 2 ^ suc n entries of which the pairs below q are done, by d at coordinate i, and the others are as they were, t
pub record Done (n i d : ℕ) (t : ℕ → ℕ) (q : ℕ) (l : List ℕ) : Type 0 where
  pub size : length l ≡ 2 ^ suc n
  pub done : (v : ℕ) → del i v < q → v < 2 ^ suc n → at l v ≡ pass i d t v
  pub rest : (v : ℕ) → q ≤ del i v → at l v ≡ t v

pub pass-start : (n i d : ℕ) (l : List ℕ) → length l ≡ 2 ^ suc n → Done n i d (at l) 0 l
pass-start n i d l e = record { size = e; done = λ v h k. absurd (omega arith); rest = λ v h. refl }

pub pass_end : (n i d : ℕ) (t : ℕ → ℕ) (l : List ℕ) → i ≤ n → Done n i d t (2 ^ n) l → l ≡ tab (2 ^ suc n) (pass i d t)
pass_end n i d t l h D = is-tab l (2 ^ suc n) (pass i d t) D.size (λ v k. D.done v (del-lt i n v h k) k)

-- what a turn writes at lo and hi: s = d × (a + b) is added to both
abbrev pub turn : ℕ → ℕ → ℕ → List ℕ → List ℕ
turn lo hi d l = set (set l lo (at l lo ⊕ d ⊗ (at l lo ⊕ at l hi))) hi (at l hi ⊕ d ⊗ (at l lo ⊕ at l hi))

-- a turn of the loop, at the places lo and hi of pair q
module _ (n i d : ℕ) (t : ℕ → ℕ) (q : ℕ) (l : List ℕ) (hi≤ : i ≤ n) (q< : q < 2 ^ n) (D : Done n i d t q l)
    (lo hi : ℕ) (elo : lo ≡ ins i 0 q) (ehi : hi ≡ ins i 1 q) where
  del-lo : del i lo ≡ q
  del-lo = ap (del i) elo ∙ del-ins i 0 q (omega arith)

  del-hi : del i hi ≡ q
  del-hi = ap (del i) ehi ∙ del-ins i 1 q (omega arith)

  lo-rest : at l lo ≡ t lo
  lo-rest = D.rest lo (omega (arith, del-lo))

  hi-rest : at l hi ≡ t hi
  hi-rest = D.rest hi (omega (arith, del-hi))

  apart : lo ≢ hi
  apart = omega (arith, ins-hi i q, pow_pos i)

  lo_in : lo < length l
  lo_in = omega (arith, D.size, ins-lt i n 0 q hi≤ (omega arith) q<)

  hi_in : hi < length l
  hi_in = omega (arith, D.size, ins-lt i n 1 q hi≤ (omega arith) q<)

  flip-at-lo : flip i lo ≡ hi
  flip-at-lo = ap (flip i) elo ∙ flip-lo i q ∙ sym ehi

  flip-at-hi : flip i hi ≡ lo
  flip-at-hi = ap (flip i) ehi ∙ flip-hi i q ∙ sym elo

  at-lo : at (turn lo hi d l) lo ≡ pass i d t lo
  unfolding pass line
  at-lo =
      get_or-set_other (set l lo (at l lo ⊕ d ⊗ (at l lo ⊕ at l hi))) hi lo (at l hi ⊕ d ⊗ (at l lo ⊕ at l hi)) 0 apart
      ∙ get_or-set_same l lo (at l lo ⊕ d ⊗ (at l lo ⊕ at l hi)) 0 lo_in ∙ rw (lo-rest, hi-rest, flip-at-lo)

  at-hi : at (turn lo hi d l) hi ≡ pass i d t hi
  unfolding pass line
  at-hi =
      get_or-set_same (set l lo (at l lo ⊕ d ⊗ (at l lo ⊕ at l hi))) hi (at l hi ⊕ d ⊗ (at l lo ⊕ at l hi)) 0 (rw length-set hi_in)
      ∙ rw (lo-rest, hi-rest, flip-at-hi, ⊕_comm (t lo) (t hi))

  elsewhere : (v : ℕ) → del i v ≢ q → at (turn lo hi d l) v ≡ at l v
  elsewhere v h =
      get_or-set_other (set l lo (at l lo ⊕ d ⊗ (at l lo ⊕ at l hi))) hi v (at l hi ⊕ d ⊗ (at l lo ⊕ at l hi)) 0 (λ e. h (ap (del i) e ∙ del-hi))
      ∙ get_or-set_other l lo v (at l lo ⊕ d ⊗ (at l lo ⊕ at l hi)) 0 (λ e. h (ap (del i) e ∙ del-lo))

  here : (v : ℕ) → del i v ≡ q → at (turn lo hi d l) v ≡ pass i d t v
  here v e =
      ⊎_elim
      (λ f. let g : v ≡ lo = f ∙ ap (ins i 0) e ∙ sym elo in rw g at-lo)
      (λ f. let g : v ≡ hi = f ∙ ap (ins i 1) e ∙ sym ehi in rw g at-hi)
      (lo_or_hi i v)

  pub pass_step : Done n i d t (suc q) (turn lo hi d l)
  pass_step =
      record {
        size = simp length-set D.size;
        done = λ v h k. ⊎_elim (λ e. here v e) (λ g. elsewhere v (omega arith) ∙ D.done v g k) (eq-or-lt_of_le {n = del i v} {m = q} (omega arith));
        rest = λ v h. elsewhere v (omega arith) ∙ D.rest v (omega arith);
      }
