-- Question 20, which is retired (SPECIFICATION 8.6): are the places of a and b in one group? Here stand the check as it was while it put that question,
-- for readers of old reports, and why the question always had its yes. That today's check gives the same answer is in AsBefore. No code and no other
-- definition uses the old check.
use Prim.Native.Nat.{ℕ, suc, ◌+◌, ◌-◌, ◌*◌, ◌%◌, ◌<◌, ◌≤◌}
use mathlib.Core.Path.{◌≡◌, refl}
use mathlib.Core.List.{List, [], ◌∷◌, ◌++◌, map}
use native.Mathlib.Omega.{arith}
use lib.Dec.{eqb}
use lib.ListN.{take, drop}
use lib.Pow.{pow_mono}
use Rattle.theory_laws.specs.Table.{at}
use Rattle.theory_laws.specs.Questions.{pick, Question, ◌asks◌, first_no}
use Rattle.theory_field.specs.Words.{words}
use Rattle.theory_merkle.specs.Tree.{group_of}
use Rattle.theory_record.specs.declared.WidthSet.{WidthSet}
use Rattle.theory_record.specs.Widths.{Widths, widths_of, level_length, level_width}
use Rattle.theory_record.specs.Format.{LevelRecord, level_form, record_items}
use Rattle.theory_record.specs.Query.{Answer, accepted, refused, pair_of, root_at, pair_questions, query_number}
use Rattle.theory_record.specs.Scheme.{Scheme}
use Rattle.theory_record.proofs.Widths.{PowersOfTwo, powers, level-shape, width-pos, width-even, pair_group}

-- ---- why: a and b, at places 2q and 2q + 1 of a level l that is queried, are in one group. Such a level is below n; below n + k is enough

pub record InOneGroup (s : Widths) (n k l q : ℕ) : Type 0 where
  -- the level has at least two values, and so its groups have
  pub two_values : 2 ≤ level_length n k l
  pub two_wide : 2 ≤ level_width s n k l
  -- the width is even, and so is the place at which the pair begins
  pub even-width : level_width s n k l % 2 ≡ 0
  pub even_place : 2 * q % 2 ≡ 0
  pub one_group : group_of (2 * q + 1) (level_width s n k l) ≡ group_of (2 * q) (level_width s n k l)

pub in_one_group : (s : Widths) → PowersOfTwo s → (n k l q : ℕ) → l < n + k → InOneGroup s n k l q
unfolding level_length
in_one_group s p n k l q h =
    let z = level-shape s n k l p in
    let pos = width-pos s n k l z in
    let even = width-even s n k l z h in
    record {
      two_values = pow_mono {i = 1} {j = n + k - l} (omega arith);
      two_wide = omega arith;
      even-width = omega arith;
      even_place = omega arith;
      one_group = pair_group (level_width s n k l) q pos even;
    }

-- under either set of widths
pub pair_in_one_group : (set : WidthSet) (n k l q : ℕ) → l < n + k → InOneGroup (widths_of set) n k l q
pair_in_one_group set = in_one_group (widths_of set) (powers set)

-- ---- the check as it was before version 0.7.0

abbrev numbers_of : List Question → List ℕ
numbers_of qs = map (λ z. z.number) qs

module _ (S : Scheme) where
  open S use {widths as s, n, k}

  -- 20: are the places of a and b, the pair q of level l, in one group?
  abbrev pub question20 : ℕ → ℕ → Question
  question20 l q = let w = level_width s n k l in 20 asks eqb (group_of (2 * q + 1) w) (group_of (2 * q) w)

  -- 16 to 26: today's questions, and 20 behind the first four of them
  abbrev pub old_pair_questions : ℕ → ℕ → ℕ → List ℕ → List ℕ → LevelRecord → List Question
  old_pair_questions l q r ra rc x =
      let today = pair_questions S l q r ra rc x in
      take 4 today ++ question20 l q ∷ drop 4 today

  -- its numbers in order, and today's: the others kept theirs, and their order
  pub old-numbers : (l q r : ℕ) (ra rc : List ℕ) (x : LevelRecord) → numbers_of (old_pair_questions l q r ra rc x)
      ≡ 16 ∷ 17 ∷ 18 ∷ 19 ∷ 20 ∷ 21 ∷ 22 ∷ 23 ∷ 24 ∷ 25 ∷ 26 ∷ []
  old-numbers l q r ra rc x = refl

  pub numbers_now : (l q r : ℕ) (ra rc : List ℕ) (x : LevelRecord) → numbers_of (pair_questions S l q r ra rc x)
      ≡ 16 ∷ 17 ∷ 18 ∷ 19 ∷ 21 ∷ 22 ∷ 23 ∷ 24 ∷ 25 ∷ 26 ∷ []
  numbers_now l q r ra rc x = refl

  -- all else as it is: level by level from l on, and the answer to a record's bytes
  module _ (position : ℕ) (challenges roots : List ℕ) where
    unfoldable pub old_level_number : ℕ → LevelRecord → ℕ
    old_level_number l x = first_no (old_pair_questions l (pair_of position l) (at (words challenges) l) (root_at roots l) (root_at roots (suc l)) x)

    unfoldable pub old_check_levels : ℕ → List LevelRecord → Answer
    old_check_levels l [] = accepted
    old_check_levels l (x ∷ xs) =
        pick (eqb (old_level_number l x) 0) (old_check_levels (suc l) xs) (record { number = old_level_number l x; level = l })

    unfoldable pub old_check_query : List ℕ → Answer
    old_check_query bytes =
        let number = query_number S position challenges roots bytes in
        pick (eqb number 0) (old_check_levels 0 (record_items level_form n bytes)) (refused number)
