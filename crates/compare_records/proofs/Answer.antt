-- The answer of a comparison, by the number of its two parts and by what was picked.
use Prim.Native.Nat.{ℕ}
use mathlib.Core.Path.{◌≡◌, sym, ◌∙◌}
use mathlib.Core.Bool.{true}
use mathlib.Core.List.{List, ◌++◌}
use Rattle.std.specs.Prelude.{Option}
use Rattle.std.specs.Option.{unwrap_or}
use Rattle.compare_pick.proofs.Picked.{picked_long}
use borrow.Author.Tests.{eq-eqb, ne_eqb, eqb-true}
use lib.ListN.{length}
use Rattle.theory_laws.proofs.Questions.{all_yes, first_stops, first_passes}
use Rattle.theory_record.specs.Query.{size_questions}
use Rattle.theory_record.proofs.Query.{QueryAccepted, query_accepted, query_zero}
use Rattle.theory_record.proofs.Ranges.{sizes_fit}
use Rattle.theory_compare.specs.Compare.{records_found, accepts, Comparison, compare_number, compared, first_message, second_message}
use Rattle.compare_pick.specs.helpers.Chains.{Picked}
use Rattle.compare_levels.specs.helpers.Levels.{Comparable}
use Rattle.compare_records.specs.helpers.Numbers.{length_questions, lent_number, record_questions, records_number}
use Rattle.theory_record.specs.declared.Trees.{Trees}
use Rattle.theory_record.specs.Scheme.{Scheme, scheme}

module _ (base : List ℕ) (how : Trees) (n k position : ℕ) (challenges roots first second old old' : List ℕ) where
  abbrev S : Scheme
  S = scheme how base n k

  -- the three equations of the contract, as one fact
  pub record Answered (r : Comparison) (new new' : List ℕ) : Type 0 where
    pub answer_is : r ≡ compared S position challenges roots first second old old'
    pub first-is : new ≡ first_message S position challenges roots first second old old'
    pub second_is : new' ≡ second_message S position challenges roots first second old old'

  refused_by : (q : ℕ) → q ≡ compare_number S position challenges roots first second old old' → (q ≡ 0 → ⊥)
      → Answered (record { number = q; first = 0; second = 0 }) old old'
  unfolding compared first_message second_message
  refused_by q e z =
      let h = ne_eqb q 0 z in
      record { answer_is = rw (← e, h); first-is = rw (← e, h); second_is = rw (← e, h) }

  module _ {x : ℕ} (ex : x ≡ lent_number (length base) n k position (length challenges) (length roots) (length old) (length old')) where
    pub lent-refused : (x ≡ 0 → ⊥) → Answered (record { number = x; first = 0; second = 0 }) old old'
    unfolding lent_number compare_number
    lent-refused z =
        refused_by x
        (first_stops (size_questions n k ++ length_questions (length base) n k position (length challenges) (length roots) (length old) (length old'))
        (record_questions base how n k position challenges roots first second) x tt ex z) z

    module _ (zx : x ≡ 0) {y : ℕ} (ey : y ≡ records_number base how n k position challenges roots first second) where
      number_is : y ≡ compare_number S position challenges roots first second old old'
      unfolding lent_number records_number compare_number
      number_is =
          first_passes (size_questions n k ++ length_questions (length base) n k position (length challenges) (length roots) (length old) (length old'))
          (record_questions base how n k position challenges roots first second) x tt ex y zx ey

      pub records_refused : (y ≡ 0 → ⊥) → Answered (record { number = y; first = 0; second = 0 }) old old'
      records_refused z = refused_by y number_is z

      module _ (zy : y ≡ 0) where
        accepted_by : (s : List ℕ) → accepts S position challenges roots s ≡ true → QueryAccepted S position challenges roots s
        unfolding accepts
        accepted_by s e =
            query_accepted S position challenges roots s (query_zero S position challenges roots s (eqb-true _ 0 e))

        pub comparable : Comparable S position first second old old'
        unfolding lent_number records_number
        comparable =
            let lent = length_questions (length base) n k position (length challenges) (length roots) (length old) (length old') in
            let a = (sizes_fit n k (all_yes (size_questions n k ++ lent) tt (sym ex ∙ zx))).1 in
            let b = all_yes (record_questions base how n k position challenges roots first second) tt (sym ey ∙ zy) in
            record {
              challenges = challenges;
              roots = roots;
              first_accepted = accepted_by first b.0;
              second_accepted = accepted_by second b.1.0;
              first-room = eqb-true _ _ a.1.1.0;
              second_room = eqb-true _ _ a.1.1.1.0;
            }

        pub picked-answer : {new new' : List ℕ} {r : Option ℕ} {m : ℕ} → m ≡ unwrap_or r 0 → Picked (records_found S position first second) old old' new new' r
            → Answered (record { number = 0; first = m; second = m }) new new'
        unfolding compared first_message second_message
        picked-answer e p =
            let h = eq-eqb y 0 zy in
            let long = picked_long _ _ p.answer in
            record {
              answer_is = rw (← number_is, h, e, ← long.0, ← long.1);
              first-is = rw (← number_is, h) p.first-is;
              second_is = rw (← number_is, h) p.second_is;
            }
