-- What an accepted record is (SPECIFICATION 8), as a conjunction with a fact for each question: the ranges, levels or groups whose bytes the
-- record is with nothing after them, and what is asked of each. That the checks accept exactly these is a law (proofs/Exactly). Rests on
-- the format, on the levels' widths and trees, and on the field.
use Rattle.std.specs.Prelude.{ℕ, suc, ◌+◌, ◌*◌, ◌^◌, ◌<◌, ◌≤◌, ◌≡◌, List, [], ◌∷◌, length}
use Rattle.theory_laws.specs.Xor.{◌⊕◌}
use Rattle.theory_laws.specs.Table.{at}
use Rattle.theory_laws.specs.Lists.{All, AllLong}
use Rattle.theory_field.specs.Field.{◌⊗◌}
use Rattle.theory_field.specs.Words.{words}
use Rattle.theory_record.specs.Widths.{level_width, level_depth, level_groups}
use Rattle.theory_record.specs.Trees.{leads_to}
use Rattle.theory_record.specs.Format.{LevelRecord, TailGroup, level_form, tail_form, record_bytes}
use Rattle.theory_record.specs.Query.{pair_of, value_at, root_at}
use Rattle.theory_record.specs.Tail.{first_value}
use Rattle.theory_record.specs.Scheme.{Scheme}

-- ---- ranges

-- 4: n is from 1 to 20 and k at most 4
pub record SizesFit (n k : ℕ) : Type 0 where
  pub n_most : n ≤ 20
  pub k_most : k ≤ 4
  pub n_least : 1 ≤ n

-- what 4, 5 and 7 ask of what is lent to a query record's check: challenges, two halves each, and roots, 32 bytes each
pub record Ranges (base : List ℕ) (n k : ℕ) (challenges roots : List ℕ) : Type 0 where
  pub sizes : SizesFit n k
  pub challenges_long : length challenges ≡ 2 * n
  pub roots_long : length roots ≡ 32 * (n + 1)
  pub base_short : length base ≤ 200

-- ---- what the format can hold

-- a count fits its four bytes
abbrev pub Few : {A : Type 0} → List A → Type 0
Few xs = length xs < 2 ^ 32

-- every word is below 2^128
abbrev pub Words : List ℕ → Type 0
Words ws = (i : ℕ) → at ws i < 2 ^ 128

-- a group of words with its path
pub record GroupHeld (values : List ℕ) (path : List (List ℕ)) : Type 0 where
  pub words : Words values
  pub values_few : Few values
  pub digests : AllLong 32 path
  pub path_few : Few path

-- a level of a query record, and a group of a tail record
pub record LevelHeld (x : LevelRecord) : Type 0 where
  pub a_word : x.a < 2 ^ 128
  pub b_word : x.b < 2 ^ 128
  pub c_word : x.c < 2 ^ 128
  pub a-held : GroupHeld x.a_group x.a_path
  pub c-held : GroupHeld x.c_group x.c_path

abbrev pub TailGroupHeld : TailGroup → Type 0
TailGroupHeld x = GroupHeld x.values x.path

-- ---- a query record

module _ (S : Scheme) where
  open S use {widths as s, n, k}

  -- 16 to 26 of level l hold, a fact for each question in its order, for the pair q, the challenge r, the root ra of level l and rc of the next
  pub record LevelHolds (l q r : ℕ) (ra rc : List ℕ) (x : LevelRecord) : Type 0 where
    pub a_width : length x.a_group ≡ level_width s n k l
    pub a_path_there : length x.a_path ≡ level_depth s n k l
    pub a_root : leads_to S l (2 * q) x.a_group x.a_path ≡ ra
    pub has_a : value_at (level_width s n k l) (2 * q) x.a_group ≡ x.a
    pub has_b : value_at (level_width s n k l) (2 * q + 1) x.a_group ≡ x.b
    pub c_width : length x.c_group ≡ level_width s n k (suc l)
    pub c_path_there : length x.c_path ≡ level_depth s n k (suc l)
    pub c_root : leads_to S (suc l) q x.c_group x.c_path ≡ rc
    pub has_c : value_at (level_width s n k (suc l)) q x.c_group ≡ x.c
    pub folds : x.a ⊕ r ⊗ (x.a ⊕ x.b) ≡ x.c

module _ (S : Scheme) (position : ℕ) (challenges roots : List ℕ) where
  open S use {base, n, k}

  -- 16 to 26 hold of level l of a record
  abbrev pub Holds : ℕ → LevelRecord → Type 0
  Holds l x = LevelHolds S l (pair_of position l) (at (words challenges) l) (root_at roots l) (root_at roots (suc l)) x

  -- and of each level, the first of which is l
  abbrev pub AllHold : ℕ → List LevelRecord → Type 0
  AllHold l [] = Unit
  AllHold l (x ∷ xs) = Holds l x × AllHold (suc l) xs

  -- these bytes are an accepted query record
  pub record AcceptedQuery (bytes : List ℕ) : Type 0 where
    -- 4, 5, 7 and 11
    pub ranges : Ranges base n k challenges roots
    pub position_low : position < 2 ^ (n + k)
    -- 14: there are levels whose bytes these are, and nothing follows
    pub levels : List LevelRecord
    pub levels-held : All LevelHeld levels
    pub reads_whole : record_bytes level_form levels ≡ bytes
    -- 15
    pub n_levels : length levels ≡ n
    -- 16 to 26, level by level
    pub levels_hold : AllHold 0 levels

-- two levels show the same groups and paths
pub record SameOpenings (x y : LevelRecord) : Type 0 where
  pub a_groups : x.a_group ≡ y.a_group
  pub c_groups : x.c_group ≡ y.c_group
  pub a_paths : x.a_path ≡ y.a_path
  pub c_paths : x.c_path ≡ y.c_path

-- ---- a tail record

module _ (S : Scheme) (last_root : List ℕ) where
  open S use {widths as s, base, n, k}

  -- 28 to 30 hold of group g
  pub record GroupHolds (g : ℕ) (x : TailGroup) : Type 0 where
    pub width : length x.values ≡ level_width s n k n
    pub depth : length x.path ≡ level_depth s n k n
    pub leads : leads_to S n (g * level_width s n k n) x.values x.path ≡ last_root

  -- and of each group, the first of which is g
  abbrev pub AllGroupsHold : ℕ → List TailGroup → Type 0
  AllGroupsHold g [] = Unit
  AllGroupsHold g (x ∷ xs) = GroupHolds g x × AllGroupsHold (suc g) xs

  -- these bytes are an accepted tail record for a claim
  pub record AcceptedTail (claim : ℕ) (bytes : List ℕ) : Type 0 where
    -- 4, 5 and 7
    pub sizes : SizesFit n k
    pub root_long : length last_root ≡ 32
    pub base_short : length base ≤ 200
    -- 14: there are groups whose bytes these are, and nothing follows
    pub groups : List TailGroup
    pub groups-held : All TailGroupHeld groups
    pub reads_whole : record_bytes tail_form groups ≡ bytes
    -- 27
    pub all-groups : length groups ≡ level_groups s n k n
    -- 28 to 30, group by group
    pub groups_hold : AllGroupsHold 0 groups
    -- 31
    pub claim_first : first_value groups ≡ claim
