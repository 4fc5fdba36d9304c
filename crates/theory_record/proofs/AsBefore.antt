-- The check that put question 20 (Retired) and today's check give the same answer to every record at every position, for all challenges and roots.
use Prim.Native.Nat.{ℕ, suc, ◌+◌, ◌<◌, ◌≤◌}
use mathlib.Core.Path.{◌≡◌, refl, ◌∙◌, ap}
use mathlib.Core.Bool.{true, not}
use mathlib.Core.List.{List, [], ◌∷◌}
use native.Mathlib.Omega.{arith}
use borrow.Author.Tests.{eq-eqb, eqb-false, not-true}
use lib.Dec.{eqb}
use lib.ListN.{length, take, drop}
use Rattle.theory_laws.specs.Questions.{Question}
use Rattle.theory_laws.proofs.Questions.{left_out}
use Rattle.theory_record.specs.declared.Trees.{Trees}
use Rattle.theory_record.specs.Format.{LevelRecord, level_form, record_items}
use Rattle.theory_record.specs.Query.{Answer, pair_of, level_questions, level_number, check_levels, check_query}
use Rattle.theory_record.specs.Scheme.{Scheme, scheme}
use Rattle.theory_record.proofs.Widths.{PowersOfTwo, powers}
use Rattle.theory_record.proofs.Records.{length-record_items}
use Rattle.theory_record.proofs.Consequences.{query_passes}
use Rattle.theory_record.proofs.Retired.{in_one_group, question20, old_level_number, old_check_levels, old_check_query}

module _ (S : Scheme) (p : PowersOfTwo S.widths) (position : ℕ) (challenges roots : List ℕ) where
  open S use {widths as s, n, k}

  level_as_before : (l : ℕ) (x : LevelRecord) → l < n + k → level_number S position challenges roots l x ≡ old_level_number S position challenges roots l x
  unfolding level_number old_level_number
  level_as_before l x h =
      let today : List Question = level_questions S position challenges roots l x in
      let yes = eq-eqb _ _ (in_one_group s p n k l (pair_of position l) h).one_group in
      left_out (take 4 today) (drop 4 today) (question20 S l (pair_of position l)) yes

  levels_as_before : (l : ℕ) (xs : List LevelRecord) → l + length xs ≤ n
      → check_levels S position challenges roots l xs ≡ old_check_levels S position challenges roots l xs
  unfolding check_levels old_check_levels
  levels_as_before l [] h = refl
  levels_as_before l (x ∷ xs) h = rw (level_as_before l x (omega arith), levels_as_before (suc l) xs (omega arith))

  check_as_before : (bytes : List ℕ) → check_query S position challenges roots bytes ≡ old_check_query S position challenges roots bytes
  unfolding check_query old_check_query
  check_as_before bytes = rw (levels_as_before 0 (record_items level_form n bytes) (omega (arith, length-record_items level_form n bytes)))

-- for either set of widths and every mode, every record, position, challenges and roots
module _ (how : Trees) (base : List ℕ) (n k position : ℕ) (challenges roots bytes : List ℕ) where
  pub as_before : check_query (scheme how base n k) position challenges roots bytes ≡ old_check_query (scheme how base n k) position challenges roots bytes
  as_before = check_as_before (scheme how base n k) (powers how.set) position challenges roots bytes

  -- the old check never gave 20
  pub old-never_20 : (old_check_query (scheme how base n k) position challenges roots bytes).number ≡ 20 → ⊥
  old-never_20 e =
      let answer : Answer = check_query (scheme how base n k) position challenges roots bytes in
      let other : not (eqb answer.number 20) ≡ true =
      query_passes (scheme how base n k) position challenges roots (λ x. not (eqb x 20)) refl (λ l x. refl) bytes refl in
      eqb-false answer.number 20 (not-true _ other) (ap (λ (r : Answer). r.number) as_before ∙ e)
