-- The questions put to a tail record before its groups, in the order of the code, and the answer.
use Prim.Native.Nat.{ℕ, ◌+◌, ◌<◌, ◌≤◌}
use mathlib.Core.Path.{◌≡◌, sym, ◌∙◌, ap}
use mathlib.Core.Bool.{Bool, true, false}
use mathlib.Core.List.{List, ◌++◌}
use native.Mathlib.Omega.{arith}
use borrow.Author.Tests.{eq-eqb, ne_eqb, le-leb, lt-leb, eqb-true, leb-true}
use lib.ListN.{length}
use lib.Seq.{take_all}
use Rattle.theory_laws.specs.Questions.{Question, first_no}
use Rattle.theory_laws.specs.Lists.{part}
use Rattle.theory_laws.proofs.Questions.{all_yes, first_stops, first_passes}
use Rattle.code_level.specs.Sizes.{size_number}
use Rattle.theory_record.specs.Widths.{level_groups}
use Rattle.theory_record.specs.Format.{tail_form, run_count, record_whole, record_items}
use Rattle.theory_record.specs.Query.{size_questions}
use Rattle.theory_record.specs.Tail.{groups_questions, tail_questions, check_tail}
use Rattle.theory_record.proofs.Ranges.{sizes_fit}
use Rattle.record_tail_check.specs.helpers.Numbers.{after4, head_number, claimed, groups_number, Allowed}
use Rattle.theory_record.specs.Scheme.{Scheme}

module _ (S : Scheme) (root s : List ℕ) (x : ℕ) (ex : x ≡ size_number S.n S.k) where
  open S use {widths, base, n, k}

  pub wrong_size : (x ≡ 0 → ⊥) → x ≡ head_number S root s
  unfolding head_number size_number
  wrong_size z = first_stops (size_questions n k) (after4 S root s) x tt ex z

  module _ (z : x ≡ 0) where
    passes : (r : ℕ) → r ≡ first_no (after4 S root s) → r ≡ head_number S root s
    unfolding head_number size_number
    passes r f = first_passes (size_questions n k) (after4 S root s) x tt ex r z f

    pub wrong_root : (length root ≡ 32 → ⊥) → 5 ≡ head_number S root s
    wrong_root e = passes 5 (rw (ne_eqb (length root) 32 e))

    module _ (a : length root ≡ 32) where
      pub long_base : 200 < length base → 7 ≡ head_number S root s
      long_base e = passes 7 (rw (eq-eqb (length root) 32 a, lt-leb (length base) 200 e))

      module _ (b : length base ≤ 200) (t : Bool) (et : t ≡ record_whole tail_form s) where
        pub not_whole : t ≡ false → 14 ≡ head_number S root s
        not_whole e = passes 14 (rw (eq-eqb (length root) 32 a, le-leb (length base) 200 b, ← et, e))

        module _ (f : t ≡ true) (m c : ℕ) (em : m ≡ run_count s) (ec : c ≡ level_groups widths n k n) where
          pub other-count : (m ≡ c → ⊥) → 27 ≡ head_number S root s
          other-count e = passes 27 (rw (eq-eqb (length root) 32 a, le-leb (length base) 200 b, ← et, f, ← em, ← ec, ne_eqb m c e))

          pub none_says_no : m ≡ c → 0 ≡ head_number S root s
          none_says_no e = passes 0 (rw (eq-eqb (length root) 32 a, le-leb (length base) 200 b, ← et, f, ← em, ← ec, eq-eqb m c e))

-- ---- the answer

module _ (S : Scheme) (root : List ℕ) (claim : ℕ) (s : List ℕ) (q : ℕ) (e : q ≡ head_number S root s) where
  open S use {widths, n, k}

  -- 28 to 31
  abbrev after27 : List Question
  after27 = groups_questions S root 0 (record_items tail_form (level_groups widths n k n) s) ++ claimed S claim s

  pub tail-refused : (q ≡ 0 → ⊥) → q ≡ check_tail S root claim s
  unfolding check_tail tail_questions head_number
  tail-refused z = first_stops (size_questions n k ++ after4 S root s) after27 q tt e z

  pub tail-passes : q ≡ 0 → (last : List ℕ) (r : ℕ) → last ≡ root → r ≡ groups_number S last claim s
      → r ≡ check_tail S root claim s
  unfolding check_tail tail_questions head_number groups_number
  tail-passes z last r el f =
      first_passes (size_questions n k ++ after4 S root s) after27 q tt e r z (f ∙ ap (λ (l : List ℕ). groups_number S l claim s) el)

-- what 4 to 27 settle
module _ (S : Scheme) (root s : List ℕ) (q : ℕ) (e : q ≡ head_number S root s) (z : q ≡ 0) where
  open S use {n, k}

  pub tail-allowed : (length root ≡ 32) × Allowed S s
  unfolding head_number
  tail-allowed =
      let all = sizes_fit n k (all_yes (size_questions n k ++ after4 S root s) tt (sym e ∙ z)) in
      let f = all.0 in
      let y = all.1 in (
        eqb-true _ _ y.0,
        record {
          n_most = f.n_most;
          k_most = f.k_most;
          n_least = f.n_least;
          base_short = leb-true _ _ y.1.0;
          reads_whole = y.1.1.0;
          groups_are = eqb-true _ _ y.1.1.1.0;
        },
      )

  pub root-room : 0 + 32 ≤ length root
  root-room = omega (arith, tail-allowed.0)

  pub whole-root : (last : List ℕ) → last ≡ part 32 0 root → last ≡ root
  unfolding part
  whole-root last f = f ∙ take_all 32 root (omega (arith, tail-allowed.0))
