-- The questions of a run: the number that they give, and what they settle where none says no.
use Prim.Native.Nat.{ℕ, suc, ◌+◌, ◌*◌, ◌^◌, ◌<◌, ◌≤◌}
use mathlib.Core.Path.{◌≡◌, refl, sym, ◌∙◌, ap}
use mathlib.Core.List.{List, ◌++◌}
use borrow.Author.Tests.{eqb-true, leb-true, ltb-true, le-ltb, lt-ltb, le-leb}
use lib.Dec.{eqb}
use Rattle.theory_laws.specs.Questions.{pick, Question, first_no}
use Rattle.theory_laws.specs.Refusals.{number_of}
use Rattle.theory_laws.specs.declared.Refusal.{Refusal}
use Rattle.theory_laws.proofs.Refusals.{never}
use Rattle.theory_laws.proofs.Questions.{yes_eq, no_eq, yes_eq-given, all_yes, first_stops, first_passes}
use Rattle.theory_record.specs.Widths.{Widths, level_length}
use Rattle.theory_record.specs.Build.{levels_length, tree_start}
use Rattle.theory_record.specs.Query.{size_questions}
use Rattle.theory_record.proofs.Ranges.{sizes_fit}
use Rattle.theory_record.proofs.Offsets.{first-length}
use Rattle.code_level.specs.Sizes.{size_number}
use Rattle.claim_run_parts.specs.Questions.{input_questions, deposit_questions, record_questions, last_questions, run_questions, run_number}
use Rattle.claim_run_parts.specs.helpers.Room.{Room, RecordRoom}

-- a question that compares halves with the words that a function gave
module _ {A : Type 0} (r x y : A) where
  pub yes_eq-twice : (a b q : ℕ) → q ≡ b → a ≡ 2 * q → r ≡ x → r ≡ pick (eqb a (2 * b)) x y
  yes_eq-twice a b q f h e = yes_eq r x y a (2 * b) (h ∙ ap (λ (i : ℕ). 2 * i) f) e

  pub no_eq-twice : (a b q : ℕ) → q ≡ b → (a ≡ 2 * q → ⊥) → r ≡ y → r ≡ pick (eqb a (2 * b)) x y
  no_eq-twice a b q f h e = no_eq r x y a (2 * b) (λ z. h (z ∙ ap (λ (i : ℕ). 2 * i) (sym f))) e

pub ruleset asks-twice = (yes_eq-twice, no_eq-twice)

-- 5 of the trees and the roots, where every other length is right
module _ (s : Widths) (n k gammas levels coordinates half kept trees roots : ℕ) {len size r : ℕ} (el : len ≡ levels_length n k) (es : size ≡ level_length n k 0)
    (a : gammas ≡ 2 * (k * n)) (b : levels ≡ 2 * len) (c : coordinates ≡ n) (d : half ≡ size) (e : kept ≡ 2 * n) where
  pub trees_asked : r ≡ pick (eqb trees (32 * tree_start s n k (suc n))) (pick (eqb roots (32 * (n + 1))) 0 5) 5
      → r ≡ first_no (deposit_questions s n k gammas levels coordinates half kept trees roots)
  trees_asked f =
      yes_eq r _ _ _ _ a (yes_eq-twice r _ _ _ _ _ el b (yes_eq r _ _ _ _ c (yes_eq-given r _ _ _ _ _ es d (yes_eq r _ _ _ _ e f))))

  pub roots_asked : {bytes : ℕ} → bytes ≡ 32 * tree_start s n k (suc n) → trees ≡ bytes → r ≡ pick (eqb roots (32 * (n + 1))) 0 5
      → r ≡ first_no (deposit_questions s n k gammas levels coordinates half kept trees roots)
  roots_asked eb f g = trees_asked (yes_eq-given r _ _ _ _ _ eb f g)

-- 11, by the length of level 0 as code computes it
module _ (n k base position : ℕ) {size : ℕ} (low : base ≤ 200) (e : size ≡ level_length n k 0) where
  size_is : size ≡ 2 ^ (n + k)
  size_is = e ∙ first-length n k

  pub too_high : size ≤ position → 11 ≡ first_no (last_questions n k base position)
  too_high h = rw (le-leb base 200 low, ← size_is, le-ltb position size h)

  pub in_reach : position < size → 0 ≡ first_no (last_questions n k base position)
  in_reach h = rw (le-leb base 200 low, ← size_is, lt-ltb position size h)

module _ (s : Widths) (n k position base table calls challenges gammas levels coordinates half kept trees roots query tail one two : ℕ) where
  abbrev N : ℕ
  N = run_number s n k position base table calls challenges gammas levels coordinates half kept trees roots query tail one two

  abbrev fourth : List Question
  fourth = record_questions s n k query tail one two ++ last_questions n k base position

  abbrev third : List Question
  third = deposit_questions s n k gammas levels coordinates half kept trees roots ++ fourth

  abbrev second : List Question
  second = input_questions n table calls challenges ++ third

  -- the first part that says no
  pub no_size : (x : Refusal) → number_of x ≡ size_number n k → number_of x ≡ N
  unfolding run_number size_number
  no_size x e = first_stops (size_questions n k) second (number_of x) tt e (never x)

  module _ (ea : 0 ≡ size_number n k) where
    past-size : (r : ℕ) → r ≡ first_no second → r ≡ N
    unfolding run_number size_number
    past-size r f = first_passes (size_questions n k) second 0 tt ea r refl f

    pub no_input : (x : Refusal) → number_of x ≡ first_no (input_questions n table calls challenges) → number_of x ≡ N
    no_input x e = past-size (number_of x) (first_stops (input_questions n table calls challenges) third (number_of x) tt e (never x))

    module _ (eb : 0 ≡ first_no (input_questions n table calls challenges)) where
      past_input : (r : ℕ) → r ≡ first_no third → r ≡ N
      past_input r f = past-size r (first_passes (input_questions n table calls challenges) third 0 tt eb r refl f)

      pub no_deposit : (x : Refusal) → number_of x ≡ first_no (deposit_questions s n k gammas levels coordinates half kept trees roots) → number_of x ≡ N
      no_deposit x e =
          past_input (number_of x)
          (first_stops (deposit_questions s n k gammas levels coordinates half kept trees roots) fourth (number_of x) tt e (never x))

      module _ (ec : 0 ≡ first_no (deposit_questions s n k gammas levels coordinates half kept trees roots)) where
        past_deposit : (r : ℕ) → r ≡ first_no fourth → r ≡ N
        past_deposit r f = past_input r (first_passes (deposit_questions s n k gammas levels coordinates half kept trees roots) fourth 0 tt ec r refl f)

        pub no_record : (x : Refusal) → number_of x ≡ first_no (record_questions s n k query tail one two) → number_of x ≡ N
        no_record x e =
            past_deposit (number_of x) (first_stops (record_questions s n k query tail one two) (last_questions n k base position) (number_of x) tt e (never x))

        pub the_last : 0 ≡ first_no (record_questions s n k query tail one two) → (r : ℕ) → r ≡ first_no (last_questions n k base position) → r ≡ N
        the_last ed r f = past_deposit r (first_passes (record_questions s n k query tail one two) (last_questions n k base position) 0 tt ed r refl f)

  -- where none says no
  module _ {q : ℕ} (e : q ≡ N) (z : q ≡ 0) where
    pub rooms : Room s n k base table calls challenges gammas levels coordinates half kept trees roots × RecordRoom s n k position query tail one two
    unfolding run_number
    rooms =
        let all = run_questions s n k position base table calls challenges gammas levels coordinates half kept trees roots query tail one two in
        let y = sizes_fit n k (all_yes all tt (sym e ∙ z)) in
        let i = y.1 in
        let d = i.1.1.1 in
        let r = d.1.1.1.1.1.1.1 in
        let l = r.1.1.1.1 in (
          record {
            commit = record {
              sizes = y.0;
              base_short = leb-true _ _ l.0;
              table_long = eqb-true _ _ i.0;
              gammas_long = eqb-true _ _ d.0;
              levels_long = eqb-true _ _ d.1.0;
              list_long = eqb-true _ _ d.1.1.0;
              trees_long = eqb-true _ _ d.1.1.1.1.1.0;
            };
            calls_lent = record { calls_long = eqb-true _ _ i.1.0; challenges_long = eqb-true _ _ i.1.1.0 };
            half_long = eqb-true _ _ d.1.1.1.0 ∙ first-length n k;
            kept_long = eqb-true _ _ d.1.1.1.1.0;
            roots_long = eqb-true _ _ d.1.1.1.1.1.1.0;
          },
          record {
            position_low = ltb-true _ _ l.1.0;
            query_long = eqb-true _ _ r.0;
            tail_long = eqb-true _ _ r.1.0;
            one_long = eqb-true _ _ r.1.1.0;
            two_long = eqb-true _ _ r.1.1.1.0;
          },
        )
