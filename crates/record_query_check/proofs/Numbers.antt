-- The questions put before the levels, in the order of the code, and the answer to a record.
use Prim.Native.Nat.{ℕ, ◌+◌, ◌*◌, ◌^◌, ◌<◌, ◌≤◌}
use mathlib.Core.Path.{◌≡◌, sym, ◌∙◌}
use mathlib.Core.Bool.{Bool, true, false}
use mathlib.Core.List.{List, [], ◌∷◌}
use borrow.Author.Tests.{eq-eqb, ne_eqb, le-leb, lt-leb, le-ltb, lt-ltb, eqb-true, leb-true, ltb-true}
use lib.Dec.{eqb, leb, ltb}
use lib.ListN.{length}
use Rattle.theory_laws.specs.Questions.{Question, ◌asks◌, first_no}
use Rattle.theory_laws.proofs.Questions.{all_yes, first_stops, first_passes}
use Rattle.code_level.specs.Sizes.{size_number}
use Rattle.theory_record.specs.Format.{level_form, run_count, record_whole, record_items}
use Rattle.theory_record.specs.Query.{Answer, size_questions, check_levels, query_questions, query_number, check_query}
use Rattle.theory_record.proofs.Ranges.{sizes_fit}
use Rattle.theory_record.proofs.Offsets.{first-length}
use Rattle.record_query_check.specs.helpers.Level.{Allowed, Whole}
use Rattle.theory_record.specs.Scheme.{Scheme, length_at}

module _ (S : Scheme) (position : ℕ) (challenges roots s : List ℕ) (x : ℕ) (ex : x ≡ size_number S.n S.k) where
  open S use {base, n, k}

  -- what is put after question 14, after 7 and after 4
  abbrev after14 : List Question
  after14 = (15 asks eqb (run_count s) n) ∷ []

  abbrev after7 : List Question
  after7 = (11 asks ltb position (2 ^ (n + k))) ∷ (14 asks record_whole level_form s) ∷ after14

  abbrev after4 : List Question
  after4 =
      (5 asks eqb (length challenges) (2 * n)) ∷
      (5 asks eqb (length roots) (32 * (n + 1))) ∷
      (7 asks leb (length base) 200) ∷
      after7

  pub wrong_size : (x ≡ 0 → ⊥) → x ≡ query_number S position challenges roots s
  unfolding query_number size_number
  wrong_size z = first_stops (size_questions n k) after4 x tt ex z

  module _ (z : x ≡ 0) where
    passes : (r : ℕ) → r ≡ first_no after4 → r ≡ query_number S position challenges roots s
    unfolding query_number size_number
    passes r f = first_passes (size_questions n k) after4 x tt ex r z f

    pub wrong_challenges : (length challenges ≡ 2 * n → ⊥) → 5 ≡ query_number S position challenges roots s
    wrong_challenges e = passes 5 (rw (ne_eqb (length challenges) (2 * n) e))

    module _ (a : length challenges ≡ 2 * n) where
      pub wrong_roots : (length roots ≡ 32 * (n + 1) → ⊥) → 5 ≡ query_number S position challenges roots s
      wrong_roots e = passes 5 (rw (eq-eqb (length challenges) (2 * n) a, ne_eqb (length roots) (32 * (n + 1)) e))

      module _ (b : length roots ≡ 32 * (n + 1)) where
        pub long_base : 200 < length base → 7 ≡ query_number S position challenges roots s
        long_base e = passes 7 (rw (eq-eqb (length challenges) (2 * n) a, eq-eqb (length roots) (32 * (n + 1)) b, lt-leb (length base) 200 e))

        module _ (c : length base ≤ 200) (p : ℕ) (ep : p ≡ position) (len : ℕ) (el : len ≡ length_at S 0) where
          passes_7 : (r : ℕ) → r ≡ first_no after7 → r ≡ query_number S position challenges roots s
          passes_7 r g = passes r (rw (eq-eqb (length challenges) (2 * n) a, eq-eqb (length roots) (32 * (n + 1)) b, le-leb (length base) 200 c) g)

          pub high_position : len ≤ p → 11 ≡ query_number S position challenges roots s
          high_position e = passes_7 11 (rw (← (el ∙ first-length n k), ← ep, le-ltb p len e))

          module _ (d : p < len) (t : Bool) (et : t ≡ record_whole level_form s) where
            pub not_whole : t ≡ false → 14 ≡ query_number S position challenges roots s
            not_whole e = passes_7 14 (rw (← (el ∙ first-length n k), ← ep, lt-ltb p len d, ← et, e))

            module _ (f : t ≡ true) (m : ℕ) (em : m ≡ run_count s) where
              passes_14 : (r : ℕ) → r ≡ first_no after14 → r ≡ query_number S position challenges roots s
              passes_14 r g = passes_7 r (rw (← (el ∙ first-length n k), ← ep, lt-ltb p len d, ← et, f) g)

              pub other-count : (m ≡ n → ⊥) → 15 ≡ query_number S position challenges roots s
              other-count e = passes_14 15 (rw (← em, ne_eqb m n e))

              pub none_says_no : m ≡ n → 0 ≡ query_number S position challenges roots s
              none_says_no e = passes_14 0 (rw (← em, eq-eqb m n e))

-- ---- the answer

module _ (S : Scheme) (position : ℕ) (challenges roots s : List ℕ) (q : ℕ) (e : q ≡ query_number S position challenges roots s) where
  open S use {n, k}

  pub query_refused : (q ≡ 0 → ⊥) → ◌≡◌ {A = Answer} (record { number = q; level = 0 }) (check_query S position challenges roots s)
  unfolding check_query
  query_refused z = rw (← e, ne_eqb q 0 z)

  module _ (z : q ≡ 0) where
    pub query_allowed : Allowed S position challenges roots × Whole n s
    unfolding query_number
    query_allowed =
        let all = sizes_fit n k (all_yes (query_questions S position challenges roots s) tt (sym e ∙ z)) in
        let f = all.0 in
        let y = all.1 in (
          record {
            n_most = f.n_most;
            k_most = f.k_most;
            n_least = f.n_least;
            challenges_long = eqb-true _ _ y.0;
            roots_long = eqb-true _ _ y.1.0;
            base_short = leb-true _ _ y.1.1.0;
            position_low = ltb-true _ _ y.1.1.1.0;
          },
          record { reads_whole = y.1.1.1.1.0; levels_are = eqb-true _ _ y.1.1.1.1.1.0 },
        )

    pub query_checked : (r : Answer) → r ≡ check_levels S position challenges roots 0 (record_items level_form n s) → r ≡ check_query S position challenges roots s
    unfolding check_query
    query_checked r f = rw (← e, eq-eqb q 0 z) f
