-- A query record is accepted exactly when every question put to it has its yes, as one conjunction of facts.
use Prim.Native.Nat.{ℕ, suc, ◌+◌, ◌^◌, ◌<◌}
use mathlib.Core.Path.{◌≡◌, refl, ap}
use mathlib.Core.Bool.{Bool, true, false}
use mathlib.Core.List.{List, [], ◌∷◌}
use borrow.Author.Tests.{eqb-true, eqb-false, leb-true, ltb-true, eq-eqb, le-leb, lt-ltb}
use lib.Dec.{eqb}
use Rattle.theory_laws.specs.Table.{at}
use Rattle.theory_laws.specs.Questions.{pick, first_no}
use Rattle.theory_laws.proofs.Lists.{same_true}
use Rattle.theory_laws.proofs.Questions.{all_yes, yes_all, same_yes}
use Rattle.theory_field.specs.Words.{words}
pub use Rattle.theory_record.specs.Accepted.{LevelHolds, Ranges, Holds, AllHold}
use Rattle.theory_record.specs.Format.{LevelRecord, level_form, run_count, record_whole, record_items}
use Rattle.theory_record.specs.Query.{Answer, accepted, refused, pair_of, root_at, pair_questions, level_number}
use Rattle.theory_record.specs.Query.{check_levels, query_questions, query_number, check_query}
use Rattle.theory_record.proofs.Ranges.{sizes_fit, fit_sizes}
use Rattle.theory_record.specs.Scheme.{Scheme}

module _ (S : Scheme) (l q r : ℕ) (ra rc : List ℕ) (x : LevelRecord) where
  pub level_holds : first_no (pair_questions S l q r ra rc x) ≡ 0 → LevelHolds S l q r ra rc x
  level_holds e =
      let y = all_yes (pair_questions S l q r ra rc x) tt e in
      record {
        a_width = eqb-true _ _ y.0;
        a_path_there = eqb-true _ _ y.1.0;
        a_root = same_true _ _ y.1.1.0;
        has_a = eqb-true _ _ y.1.1.1.0;
        has_b = eqb-true _ _ y.1.1.1.1.0;
        c_width = eqb-true _ _ y.1.1.1.1.1.0;
        c_path_there = eqb-true _ _ y.1.1.1.1.1.1.0;
        c_root = same_true _ _ y.1.1.1.1.1.1.1.0;
        has_c = eqb-true _ _ y.1.1.1.1.1.1.1.1.0;
        folds = eqb-true _ _ y.1.1.1.1.1.1.1.1.1.0;
      }

  pub holds_level : LevelHolds S l q r ra rc x → first_no (pair_questions S l q r ra rc x) ≡ 0
  holds_level h =
      yes_all (pair_questions S l q r ra rc x) (
        eq-eqb _ _ h.a_width,
        (
          eq-eqb _ _ h.a_path_there,
          (
            same_yes _ _ h.a_root,
            (
              eq-eqb _ _ h.has_a,
              (
                eq-eqb _ _ h.has_b,
                (
                  eq-eqb _ _ h.c_width,
                  (
                    eq-eqb _ _ h.c_path_there,
                    (
                      same_yes _ _ h.c_root,
                      (
                        eq-eqb _ _ h.has_c,
                        (eq-eqb _ _ h.folds, tt),
                      ),
                    ),
                  ),
                ),
              ),
            ),
          ),
        ),
      )

-- ---- level by level

module _ (S : Scheme) (position : ℕ) (challenges roots : List ℕ) where
  open S use {base, n, k}

  pub all_hold : (l : ℕ) (xs : List LevelRecord) → check_levels S position challenges roots l xs ≡ accepted → AllHold S position challenges roots l xs
  unfolding check_levels level_number
  all_hold l [] e = tt
  all_hold l (x ∷ xs) e = go (eqb number 0) refl e (all_hold (suc l) xs)
    where
      number : ℕ
      number = level_number S position challenges roots l x

      go : (b : Bool) → eqb number 0 ≡ b → pick b (check_levels S position challenges roots (suc l) xs) (record { number = number; level = l }) ≡ accepted
          → (check_levels S position challenges roots (suc l) xs ≡ accepted → AllHold S position challenges roots (suc l) xs)
          → AllHold S position challenges roots l (x ∷ xs)
      go true z f rest = (level_holds S l (pair_of position l) (at (words challenges) l) (root_at roots l) (root_at roots (suc l)) x (eqb-true number 0 z), rest f)
      go false z f rest = absurd (eqb-false number 0 z (ap (λ (r : Answer). r.number) f))

  pub hold_all : (l : ℕ) (xs : List LevelRecord) → AllHold S position challenges roots l xs → check_levels S position challenges roots l xs ≡ accepted
  unfolding check_levels level_number
  hold_all l [] h = refl
  hold_all l (x ∷ xs) h =
      let yes = holds_level S l (pair_of position l) (at (words challenges) l) (root_at roots l) (root_at roots (suc l)) x h.0 in
      rw (eq-eqb _ 0 yes) (hold_all (suc l) xs h.1)

  -- ---- the whole record

  -- every question put to a record has its yes
  pub record QueryAccepted (bytes : List ℕ) : Type 0 where
    pub ranges : Ranges base n k challenges roots
    pub position_low : position < 2 ^ (n + k)
    pub reads_whole : record_whole level_form bytes ≡ true
    pub has_n_levels : run_count bytes ≡ n
    pub levels_hold : AllHold S position challenges roots 0 (record_items level_form n bytes)

  pub query_accepted : (bytes : List ℕ) → check_query S position challenges roots bytes ≡ accepted → QueryAccepted bytes
  unfolding check_query query_number
  query_accepted bytes e = go (eqb number 0) refl e
    where
      number : ℕ
      number = query_number S position challenges roots bytes

      go : (b : Bool) → eqb number 0 ≡ b
          → pick b (check_levels S position challenges roots 0 (record_items level_form n bytes)) (refused number) ≡ accepted → QueryAccepted bytes
      go true z f =
          let all = sizes_fit n k (all_yes (query_questions S position challenges roots bytes) tt (eqb-true number 0 z)) in
          let y = all.1 in
          record {
            ranges = record {
              sizes = all.0;
              challenges_long = eqb-true _ _ y.0;
              roots_long = eqb-true _ _ y.1.0;
              base_short = leb-true _ _ y.1.1.0;
            };
            position_low = ltb-true _ _ y.1.1.1.0;
            reads_whole = y.1.1.1.1.0;
            has_n_levels = eqb-true _ _ y.1.1.1.1.1.0;
            levels_hold = all_hold 0 (record_items level_form n bytes) f;
          }
      go false z f = absurd (eqb-false number 0 z (ap (λ (r : Answer). r.number) f))

  pub accepted_query : (bytes : List ℕ) → QueryAccepted bytes → check_query S position challenges roots bytes ≡ accepted
  unfolding check_query query_number
  accepted_query bytes h =
      let r = h.ranges in
      let e : first_no (query_questions S position challenges roots bytes) ≡ 0 =
      yes_all (query_questions S position challenges roots bytes)
      (fit_sizes n k r.sizes (
        eq-eqb _ _ r.challenges_long,
        (
          eq-eqb _ _ r.roots_long,
          (
            le-leb _ _ r.base_short,
            (
              lt-ltb _ _ h.position_low,
              (
                h.reads_whole,
                (eq-eqb _ _ h.has_n_levels, tt),
              ),
            ),
          ),
        ),
      )) in
      rw (eq-eqb _ 0 e) (hold_all 0 (record_items level_form n bytes) h.levels_hold)

  -- ---- the number 0 says all: the level is then 0 too

  levels-zero : (l : ℕ) (xs : List LevelRecord) → (check_levels S position challenges roots l xs).number ≡ 0
      → check_levels S position challenges roots l xs ≡ accepted
  unfolding check_levels
  levels-zero l [] e = refl
  levels-zero l (x ∷ xs) e = go (eqb number 0) refl e (levels-zero (suc l) xs)
    where
      number : ℕ
      number = level_number S position challenges roots l x

      rest : Answer
      rest = check_levels S position challenges roots (suc l) xs

      go : (b : Bool) → eqb number 0 ≡ b → (pick b rest (record { number = number; level = l })).number ≡ 0 → (rest.number ≡ 0 → rest ≡ accepted)
          → pick b rest (record { number = number; level = l }) ≡ accepted
      go true z f ih = ih f
      go false z f ih = absurd (eqb-false number 0 z f)

  pub query_zero : (bytes : List ℕ) → (check_query S position challenges roots bytes).number ≡ 0 → check_query S position challenges roots bytes ≡ accepted
  unfolding check_query
  query_zero bytes e = go (eqb number 0) refl e
    where
      number : ℕ
      number = query_number S position challenges roots bytes

      rest : Answer
      rest = check_levels S position challenges roots 0 (record_items level_form n bytes)

      go : (b : Bool) → eqb number 0 ≡ b → (pick b rest (refused number)).number ≡ 0 → pick b rest (refused number) ≡ accepted
      go true z f = levels-zero 0 (record_items level_form n bytes) f
      go false z f = absurd (eqb-false number 0 z f)
