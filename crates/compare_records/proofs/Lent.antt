-- The questions put to what is lent, in the order of the code.
use Prim.Native.Nat.{ℕ, ◌+◌, ◌*◌, ◌^◌, ◌<◌, ◌≤◌}
use mathlib.Core.Path.{◌≡◌, refl, ◌∙◌}
use mathlib.Core.List.{[], ◌∷◌}
use lib.Dec.{ltb}
use borrow.Author.Tests.{eq-eqb, ne_eqb, le-leb, lt-leb, le-ltb, lt-ltb}
use Rattle.theory_laws.specs.Questions.{◌asks◌, first_no}
use Rattle.theory_laws.specs.Refusals.{number_of}
use Rattle.theory_laws.specs.declared.Refusal.{Refusal}
use Rattle.theory_laws.proofs.Refusals.{never}
use Rattle.theory_laws.proofs.Questions.{first_stops, first_passes}
use Rattle.code_level.specs.Sizes.{size_number}
use Rattle.theory_record.specs.Widths.{level_length}
use Rattle.theory_record.specs.Query.{size_questions}
use Rattle.theory_record.proofs.Offsets.{first-length}
use Rattle.theory_compare.specs.Compare.{message_buffer}
use Rattle.compare_records.specs.helpers.Numbers.{length_questions, lent_number}

module _ (base n k position challenges roots first second : ℕ) where
  pub wrong_size : (x : Refusal) → number_of x ≡ size_number n k → number_of x ≡ lent_number base n k position challenges roots first second
  unfolding lent_number size_number
  wrong_size x e = first_stops (size_questions n k) (length_questions base n k position challenges roots first second) (number_of x) tt e (never x)

  module _ (sizes : 0 ≡ size_number n k) where
    passes : (r : ℕ) → r ≡ first_no (length_questions base n k position challenges roots first second)
        → r ≡ lent_number base n k position challenges roots first second
    unfolding lent_number size_number
    passes r f = first_passes (size_questions n k) (length_questions base n k position challenges roots first second) 0 tt sizes r refl f

    pub wrong_challenges : (challenges ≡ 2 * n → ⊥) → 5 ≡ lent_number base n k position challenges roots first second
    wrong_challenges e = passes 5 (rw (ne_eqb challenges (2 * n) e))

    module _ (a : challenges ≡ 2 * n) where
      pub wrong_roots : (roots ≡ 32 * (n + 1) → ⊥) → 5 ≡ lent_number base n k position challenges roots first second
      wrong_roots e = passes 5 (rw (eq-eqb challenges (2 * n) a, ne_eqb roots (32 * (n + 1)) e))

      module _ (b : roots ≡ 32 * (n + 1)) where
        pub wrong_first : (first ≡ message_buffer → ⊥) → 5 ≡ lent_number base n k position challenges roots first second
        wrong_first e = passes 5 (rw (eq-eqb challenges (2 * n) a, eq-eqb roots (32 * (n + 1)) b, ne_eqb first message_buffer e))

        module _ (c : first ≡ message_buffer) where
          pub wrong_second : (second ≡ message_buffer → ⊥) → 5 ≡ lent_number base n k position challenges roots first second
          wrong_second e =
              passes 5 (rw (eq-eqb challenges (2 * n) a, eq-eqb roots (32 * (n + 1)) b, eq-eqb first message_buffer c, ne_eqb second message_buffer e))

          module _ (d : second ≡ message_buffer) where
            pub long_base : 200 < base → 7 ≡ lent_number base n k position challenges roots first second
            long_base e =
                passes 7
                (rw (eq-eqb challenges (2 * n) a, eq-eqb roots (32 * (n + 1)) b, eq-eqb first _ c, eq-eqb second _ d, lt-leb base 200 e))

            module _ (f : base ≤ 200) (p : ℕ) (ep : p ≡ position) (len : ℕ) (el : len ≡ level_length n k 0) where
              passes_7 : (r : ℕ) → r ≡ first_no ((11 asks ltb position (2 ^ (n + k))) ∷ []) → r ≡ lent_number base n k position challenges roots first second
              passes_7 r g =
                  passes r
                  (rw (eq-eqb challenges (2 * n) a, eq-eqb roots (32 * (n + 1)) b, eq-eqb first _ c, eq-eqb second _ d, le-leb base 200 f) g)

              pub high_position : len ≤ p → 11 ≡ lent_number base n k position challenges roots first second
              high_position e = passes_7 11 (rw (← (el ∙ first-length n k), ← ep, le-ltb p len e))

              pub none_says_no : p < len → 0 ≡ lent_number base n k position challenges roots first second
              none_says_no e = passes_7 0 (rw (← (el ∙ first-length n k), ← ep, lt-ltb p len e))
