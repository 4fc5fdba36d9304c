-- A level's sizes, from its length and its width as code computes them.
use Prim.Native.Nat.{ℕ, ◌+◌, ◌-◌, ◌*◌, ◌/◌, ◌%◌, ◌^◌, ◌<◌, ◌≤◌}
use mathlib.Core.Path.{◌≡◌, refl, sym, ◌∙◌, ap, ap₂}
use mathlib.Core.Bool.{Bool, true, false}
use native.Mathlib.Nat.{mod-eq_of_lt}
use native.Mathlib.Omega.{arith}
use borrow.Author.Tests.{le-leb, lt-leb, eq-eqb, ne_eqb}
use lib.Dec.{leb, eqb}
use lib.Pow.{pow_mono}
use Rattle.theory_laws.specs.Questions.{pick}
use Rattle.theory_merkle.specs.Tree.{depth_of}
use Rattle.theory_record.specs.declared.WidthSet.{WidthSet}
use Rattle.theory_record.specs.Widths.{widths_of, width_for, level_length, level_width, level_groups, level_depth}
use Rattle.theory_laws.specs.Refusals.{number_of}
use Rattle.theory_laws.specs.declared.Refusal.{Refusal}
use Rattle.theory_laws.proofs.Questions.{all_yes}
use Rattle.theory_laws.proofs.Refusals.{never}
use Rattle.theory_record.specs.Query.{size_questions}
use Rattle.theory_record.proofs.Ranges.{SizesFit, sizes_fit}
use Rattle.code_level.specs.Sizes.{size_number}
use Rattle.theory_record.proofs.Widths.{powers, level-shape, width-pos}

-- the code's shift, which keeps 64 bits
pub shifted : (n k l m : ℕ) → n + k ≤ 24 → m ≡ n + k - l → 1 * 2 ^ m % 2 ^ 64 ≡ level_length n k l
unfolding level_length
shifted n k l m h e =
    let b : 2 ^ m ≤ 2 ^ 24 = pow_mono {i = m} {j = 24} (omega arith) in
    let z : 1 * 2 ^ m ≡ 2 ^ m = omega arith in
    rw (z, mod-eq_of_lt {n = 2 ^ m} {m = 2 ^ 64} (omega arith)) (ap (λ (i : ℕ). 2 ^ i) e)

-- the width of a length, by the threshold t that a function gave
module _ (set : WidthSet) (t len r : ℕ) (e : t ≡ (widths_of set).threshold) where
  pub from_threshold : t ≤ len → r ≡ (widths_of set).width → r ≡ width_for (widths_of set) len
  unfolding width_for
  from_threshold h f = rw (← e, le-leb t len h) f

  pub below_threshold : len < t → r ≡ pick (leb 2 len) 2 1 → r ≡ width_for (widths_of set) len
  unfolding width_for
  below_threshold h f = rw (← e, lt-leb t len h) f

module _ (set : WidthSet) (n k l x w : ℕ) where
  pub level-width : (r : ℕ) → x ≡ level_length n k l → r ≡ width_for (widths_of set) x → r ≡ level_width (widths_of set) n k l
  unfolding level_width
  level-width r e f = f ∙ ap (width_for (widths_of set)) e

  pub width_positive : w ≡ level_width (widths_of set) n k l → 0 < w
  width_positive e = rw e (width-pos (widths_of set) n k l (level-shape (widths_of set) n k l (powers set)))

  pub level-groups : x ≡ level_length n k l → w ≡ level_width (widths_of set) n k l → x / w ≡ level_groups (widths_of set) n k l
  unfolding level_groups
  level-groups e f = ap₂ (λ (a b : ℕ). a / b) e f

  pub level-depth : (r : ℕ) → x ≡ level_length n k l → w ≡ level_width (widths_of set) n k l → r ≡ depth_of x w → r ≡ level_depth (widths_of set) n k l
  unfolding level_depth
  level-depth r e f g = g ∙ ap₂ (λ (a b : ℕ). depth_of a b) e f

-- what question 4's yes settles
pub sizes-said : (n k x : ℕ) → x ≡ size_number n k → x ≡ 0 → SizesFit n k
unfolding size_number
sizes-said n k x e z = (sizes_fit n k (all_yes (size_questions n k) tt (sym e ∙ z))).0

-- the three parts of question 4 in front of further questions, of which X is the number, by what `size_questions` answered:
-- `search (asks, asks-sizes)`
abbrev sizes_then : Bool → Bool → Bool → ℕ → ℕ
sizes_then a b c X = pick a (pick b (pick c X 4) 4) 4

module _ (n k X : ℕ) where
  pub yes_sizes : (r : ℕ) → 0 ≡ size_number n k → r ≡ X → r ≡ sizes_then (leb n 20) (leb k 4) (leb 1 n) X
  yes_sizes r e f =
      let s = sizes-said n k 0 e refl in
      rw (le-leb n 20 s.n_most, le-leb k 4 s.k_most, le-leb 1 n s.n_least) f

  pub no_sizes : (x : Refusal) → number_of x ≡ size_number n k → number_of x ≡ sizes_then (leb n 20) (leb k 4) (leb 1 n) X
  unfolding size_number
  no_sizes x e = go (leb n 20) (leb k 4) (leb 1 n) e
    where
      go : (a b c : Bool) → number_of x ≡ sizes_then a b c 0 → number_of x ≡ sizes_then a b c X
      go true true true f = never x f
      go true true false f = f
      go true false c f = f
      go false b c f = f

-- a lent length in halves, compared with a number of words that a function gave
module _ {A : Type 0} (r x y : A) (a b q : ℕ) (e : q ≡ b) where
  pub yes_halves : a ≡ 2 * q → r ≡ x → r ≡ pick (eqb a (2 * b)) x y
  yes_halves h f = rw (← e, eq-eqb a (2 * q) h) f

  pub no_halves : (a ≡ 2 * q → ⊥) → r ≡ y → r ≡ pick (eqb a (2 * b)) x y
  no_halves h f = rw (← e, ne_eqb a (2 * q) h) f

pub ruleset asks-sizes = (yes_sizes, no_sizes, yes_halves, no_halves)
