-- The questions put to a level of a query record in three parts: 16 to 21, of which 20 is retired, 22 to 25, and 26, and what code needs to put them. Rests on the
-- three questions put to a group and its path.
use Rattle.std.specs.Prelude.{ℕ, ◌+◌, ◌*◌, ◌^◌, ◌≤◌, ◌<◌, ◌≡◌, List, [], ◌∷◌, ◌++◌, Option, Some, eqb, true, length, drop}
use Rattle.theory_laws.specs.Questions.{Question, ◌asks◌, first_no}
use Rattle.theory_record.specs.Format.{run_count, run_fits, level_form, level_read, record_whole, record_items}
use Rattle.theory_record.specs.Query.{Answer, pair_of, value_at, root_at, level_number, check_levels}
use Rattle.record_reader.specs.declared.Level.{Level}
use Rattle.record_reader.specs.helpers.Places.{level_at}
use Rattle.record_reader.specs.declared.Opening.{Opening}
use Rattle.record_opening.specs.helpers.Opening.{values_at, digests_at, opening_questions, Readable, Known}
use Rattle.record_known.specs.helpers.Known.{LevelsKnown}
use Rattle.theory_record.specs.Scheme.{Scheme, width_at}

-- 19 and 21
abbrev pub pair_held : ℕ → ℕ → List ℕ → ℕ → ℕ → List Question
pair_held w q values a b =
    (19 asks eqb (value_at w (2 * q) values) a) ∷
    (21 asks eqb (value_at w (2 * q + 1) values) b) ∷
    []

-- 16 to 21, put to the group and the path of a and b
unfoldable pub a_number : Scheme → ℕ → ℕ → List ℕ → List (List ℕ) → List ℕ → ℕ → ℕ → ℕ
a_number S l q values path root a b = first_no (opening_questions S l (2 * q) values path root 16 ++ pair_held (width_at S l) q values a b)

-- 25
abbrev pub held : ℕ → ℕ → List ℕ → ℕ → List Question
held w q values c = (25 asks eqb (value_at w q values) c) ∷ []

-- 22 to 25, put to the group and the path of c, of level l
unfoldable pub c_number : Scheme → ℕ → ℕ → List ℕ → List (List ℕ) → List ℕ → ℕ → ℕ
c_number S l q values path root c = first_no (opening_questions S l q values path root 22 ++ held (width_at S l) q values c)

-- ---- of a record's bytes s: the groups and the paths by the bytes at which they begin

-- 16 to 21
abbrev pub a_number_at : Scheme → ℕ → ℕ → List ℕ → ℕ → ℕ → List ℕ → ℕ → ℕ → ℕ
a_number_at S l q s group path root a b = a_number S l q (values_at s group) (digests_at s path) root a b

-- 22 to 25
abbrev pub c_number_at : Scheme → ℕ → ℕ → List ℕ → ℕ → ℕ → List ℕ → ℕ → ℕ
c_number_at S l q s group path root c = c_number S l q (values_at s group) (digests_at s path) root c

-- 16 to 26, put to the level that begins at byte i
abbrev pub level_asked : Scheme → ℕ → List ℕ → List ℕ → ℕ → List ℕ → ℕ → ℕ
level_asked S position challenges roots l s i = level_number S position challenges roots l (level_read (drop i s))

-- and to every level, in order
abbrev pub all_asked : Scheme → ℕ → List ℕ → List ℕ → List ℕ → Answer
all_asked S position challenges roots s = check_levels S position challenges roots 0 (record_items level_form S.n s)

-- ---- what code needs to put them

-- the group at a byte of s is all there and has this width
pub record WideGroup (s : List ℕ) (group width : ℕ) : Type 0 where
  pub filled : 0 < width
  pub fits : run_fits 16 (drop group s) ≡ true
  pub count-is : run_count (drop group s) ≡ width

-- what 4, 5, 7 and 11 settle of what is lent
pub record Allowed (S : Scheme) (position : ℕ) (challenges roots : List ℕ) : Type 0 where
  pub n_most : S.n ≤ 20
  pub k_most : S.k ≤ 4
  pub n_least : 1 ≤ S.n
  pub challenges_long : length challenges ≡ 2 * S.n
  pub roots_long : length roots ≡ 32 * (S.n + 1)
  pub base_short : length S.base ≤ 200
  pub position_low : position < 2 ^ (S.n + S.k)

-- what 14 and 15 settle: the record reads whole and has n levels
pub record Whole (n : ℕ) (s : List ℕ) : Type 0 where
  pub reads_whole : record_whole level_form s ≡ true
  pub levels_are : run_count s ≡ n

-- for 16 to 21: the group and the path are there, the level and the pair are in their ranges, and what is known of the opening is so
pub record PairThere (S : Scheme) (l q : ℕ) (s : List ℕ) (group path : ℕ) (root : List ℕ) (old : Option Opening) : Type 0 where
  pub readable : Readable S l s group path
  pub pair_most : q < 16777216
  pub level_low : l < S.n
  pub known : Known S l (2 * q) s old root

-- for 16 to 26: v is the level that was read at byte i, and what is known of the opening of a and b, and of c's, is so
pub record LevelThere (S : Scheme) (position : ℕ) (challenges roots : List ℕ) (l : ℕ) (s : List ℕ) (i : ℕ) (v : Level) (old c-old : Option Opening) : Type 0 where
  pub allowed : Allowed S position challenges roots
  pub level_low : l < S.n
  pub read : Some v ≡ level_at s i
  pub known : Known S l (2 * pair_of position l) s old (root_at roots l)
  pub c_known : Known S (l + 1) (pair_of position l) s c-old (root_at roots (l + 1))

-- for 22 to 25
abbrev pub ValueThere : Scheme → ℕ → ℕ → List ℕ → ℕ → ℕ → List ℕ → Option Opening → Type 0
ValueThere S l q s group path root old = (Readable S l s group path) × (Known S l q s old root)

-- for 16 to 26 of every level
abbrev pub LevelsThere : Scheme → ℕ → List ℕ → List ℕ → List ℕ → List (Option Opening) → Type 0
LevelsThere S position challenges roots s ways = (Allowed S position challenges roots) × (Whole S.n s) × (LevelsKnown S position roots s ways)
