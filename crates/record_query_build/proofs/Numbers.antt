-- The numbers of a query record's building, question by question, and what the entry leaves.
use Prim.Native.Nat.{ℕ, suc, ◌+◌, ◌*◌, ◌^◌, ◌<◌, ◌≤◌}
use mathlib.Core.Path.{◌≡◌, sym, ◌∙◌}
use mathlib.Core.List.{List}
use borrow.Author.Tests.{eq-eqb, ne_eqb, lt-ltb, le-ltb}
use lib.ListN.{length}
use Rattle.theory_field.specs.Words.{words}
use Rattle.code_level.specs.Sizes.{size_number}
use Rattle.theory_laws.proofs.Questions.{first_stops, first_passes}
use Rattle.theory_record.specs.Widths.{Widths, level_length}
use Rattle.theory_record.specs.Sizes.{query_size}
use Rattle.theory_record.specs.Query.{size_questions}
use Rattle.theory_record.specs.Build.{levels_length, tree_start, query_bytes, build_query_number, build_query}
use Rattle.theory_record.proofs.Offsets.{first-length}
use Rattle.theory_record.proofs.BuildAllowed.{QueryBuild, query_build}
use Rattle.record_query_build.specs.helpers.Numbers.{lengths, build_number}

module _ (s : Widths) (n k levels trees out position x : ℕ) (ex : x ≡ size_number n k) where
  pub wrong_size : (x ≡ 0 → ⊥) → x ≡ build_number s n k levels trees out position
  unfolding build_number size_number
  wrong_size z = first_stops (size_questions n k) (lengths s n k levels trees out position) x tt ex z

  module _ (z : x ≡ 0) (len : ℕ) (el : len ≡ levels_length n k) where
    pub wrong_levels : (levels ≡ 2 * len → ⊥) → 5 ≡ build_number s n k levels trees out position
    unfolding build_number size_number
    wrong_levels h = first_passes (size_questions n k) (lengths s n k levels trees out position) x tt ex 5 z (rw (← el, ne_eqb levels (2 * len) h))

    module _ (a : levels ≡ 2 * len) (size : ℕ) (et : size ≡ 32 * tree_start s n k (suc n)) where
      pub wrong_trees : (trees ≡ size → ⊥) → 5 ≡ build_number s n k levels trees out position
      unfolding build_number size_number
      wrong_trees h =
          first_passes (size_questions n k) (lengths s n k levels trees out position) x tt ex 5 z
          (rw (← el, eq-eqb levels (2 * len) a, ← et, ne_eqb trees size h))

      module _ (b : trees ≡ size) (room : ℕ) (eo : room ≡ query_size s n k) where
        pub wrong_out : (out ≡ room → ⊥) → 5 ≡ build_number s n k levels trees out position
        unfolding build_number size_number
        wrong_out h =
            first_passes (size_questions n k) (lengths s n k levels trees out position) x tt ex 5 z
            (rw (← el, eq-eqb levels (2 * len) a, ← et, eq-eqb trees size b, ← eo, ne_eqb out room h))

        module _ (c : out ≡ room) (p : ℕ) (ep : p ≡ position) (count : ℕ) (ec : count ≡ level_length n k 0) where
          count-is : count ≡ 2 ^ (n + k)
          count-is = ec ∙ first-length n k

          pub wrong_position : count ≤ p → 11 ≡ build_number s n k levels trees out position
          unfolding build_number size_number
          wrong_position h =
              first_passes (size_questions n k) (lengths s n k levels trees out position) x tt ex 11 z
              (rw (← el, eq-eqb levels (2 * len) a, ← et, eq-eqb trees size b, ← eo, eq-eqb out room c, ← count-is, ← ep, le-ltb p count h))

          pub none_says_no : p < count → 0 ≡ build_number s n k levels trees out position
          unfolding build_number size_number
          none_says_no h =
              first_passes (size_questions n k) (lengths s n k levels trees out position) x tt ex 0 z
              (rw (← el, eq-eqb levels (2 * len) a, ← et, eq-eqb trees size b, ← eo, eq-eqb out room c, ← count-is, ← ep, lt-ltb p count h))

-- ---- the answer

module _ (s : Widths) (n k : ℕ) (levels trees : List ℕ) (position : ℕ) (out : List ℕ) (q : ℕ)
    (e : q ≡ build_number s n k (length levels) (length trees) (length out) position) where
  pub number_is : q ≡ build_query_number s n k levels trees position out
  unfolding build_number build_query_number
  number_is = e

  pub refused : (q ≡ 0 → ⊥) → out ≡ build_query s n k levels trees position out
  unfolding build_query
  refused z = rw (← number_is, ne_eqb q 0 z)

  pub allowed : q ≡ 0 → QueryBuild s n k levels trees position out
  allowed z = query_build s n k levels trees position out (sym number_is ∙ z)

  pub done : (o : List ℕ) → q ≡ 0 → o ≡ query_bytes s n k (words levels) trees position → o ≡ build_query s n k levels trees position out
  unfolding build_query
  done o z f = rw (← number_is, eq-eqb q 0 z) f
