-- What a first pass knows of the openings of a record.
use Rattle.std.specs.Prelude.{ℕ, ◌+◌, ◌*◌, ◌/◌, ◌^◌, ◌≤◌, ◌<◌, ◌≡◌, Bool, List, Option, Some, None, length, get_or, set}
use Rattle.std.specs.Option.{is_some}
use Rattle.theory_laws.specs.Questions.{both}
use Rattle.theory_laws.specs.Lists.{same}
use Rattle.theory_record.specs.Query.{root_at}
use Rattle.theory_record.specs.Scheme.{Scheme, width_at}
use Rattle.record_reader.specs.declared.Opening.{Opening}
use Rattle.record_reader.specs.helpers.Places.{where_there}
use Rattle.record_opening.specs.helpers.Opening.{Known}
use Rattle.tree_four_ways.specs.declared.Lane.{Lane}
use Rattle.record_known.specs.helpers.Domains.{level_in, OneDigitCount}
use Rattle.record_known.specs.helpers.Lanes.{InRange, MaybeLaneOf, Ended}

-- ---- any openings

-- what a list of openings is of: the level and the place of each
pub record Sought : Type 0 where
  pub level : ℕ → ℕ
  pub place : ℕ → ℕ

-- no opening
abbrev pub no_opening : Opening
no_opening = record { group_at = 0; path_at = 0 }

-- opening i of a list of them
abbrev pub opening_of : List Opening → ℕ → Opening
opening_of openings i = get_or openings i no_opening

-- what a list of those that are known has of opening i
abbrev pub known_of : List (Option Opening) → ℕ → Option Opening
known_of ways i = get_or ways i None

-- those that are known lead to their roots
pub record AllKnown (S : Scheme) (w : Sought) (root : ℕ → List ℕ) (s : List ℕ) (ways : List (Option Opening)) : Type 0 where
  pub all_there : length ways ≡ 21
  pub known_at : (i : ℕ) → Known S (w.level i) (w.place i) s (known_of ways i) (root i)

-- an opening, known where it leads to the root
abbrev pub opened_by : Opening → Option (List ℕ) → List ℕ → Option Opening
opened_by at None root = None
opened_by at (Some end) root = where_there (same end root) at

-- a list with opening i known where it leads to the root
abbrev pub settled : List (Option Opening) → List Opening → ℕ → Option (List ℕ) → List ℕ → List (Option Opening)
settled ways openings i end root = set ways i (opened_by (opening_of openings i) end root)

module _ (S : Scheme) (w : Sought) (s : List ℕ) (openings : List Opening) where
  -- the lane of opening i
  abbrev pub LaneAt : ℕ → Option Lane → Type 0
  LaneAt i lane = MaybeLaneOf S (w.level i) (w.place i) s (opening_of openings i).group_at (opening_of openings i).path_at lane

  -- it came to what group and path lead to
  abbrev pub EndAt : ℕ → Option (List ℕ) → Type 0
  EndAt i end = Ended S (w.level i) (w.place i) s (opening_of openings i).group_at (opening_of openings i).path_at end

-- that is so of four openings, of which number j is opening `which j` of the list
pub record EndsAt (S : Scheme) (w : Sought) (s : List ℕ) (openings : List Opening) (which : ℕ → ℕ) (ends : List (Option (List ℕ))) : Type 0 where
  pub end_of : (j : ℕ) → j < 4 → EndAt S w s openings (which j) (get_or ends j None)

-- ---- the levels of a query record

-- the opening of level l is of the place that a position goes to there
abbrev pub levels : ℕ → Sought
levels position = record { level = λ l. l; place = λ l. position / 2 ^ l }

-- what is known of the levels' openings is so
abbrev pub LevelsKnown : Scheme → ℕ → List ℕ → List ℕ → List (Option Opening) → Type 0
LevelsKnown S position roots s ways = AllKnown S (levels position) (root_at roots) s ways

-- what is lent is in its ranges
pub record LevelsLent (S : Scheme) (roots s : List ℕ) : Type 0 where
  pub in_range : InRange S S.n
  pub roots_long : length roots ≡ 32 * (S.n + 1)
  pub counted : 4 ≤ length s

-- for four levels from e to at most `last`: what is lent, the levels, and what is known so far
pub record FourLevels (S : Scheme) (position : ℕ) (roots s : List ℕ) (e last : ℕ) (ways : List (Option Opening)) : Type 0 where
  pub lent : LevelsLent S roots s
  pub rising : e ≤ last
  pub last_most : last ≤ S.n
  pub one_count : OneDigitCount e last
  pub known_so_far : LevelsKnown S position roots s ways

-- all openings of four levels from e on are known
abbrev pub four_known : List (Option Opening) → ℕ → ℕ → Bool
four_known ways e last =
    both (is_some (known_of ways (level_in e last 0)))
    (both (is_some (known_of ways (level_in e last 1)))
    (both (is_some (known_of ways (level_in e last 2))) (is_some (known_of ways (level_in e last 3)))))

-- ---- the groups of a tail record

-- the opening of group g is of its first place on the last level
abbrev pub groups : Scheme → Sought
groups S = record { level = λ g. S.n; place = λ g. g * width_at S S.n }

-- what is known of the groups' openings is so
abbrev pub GroupsKnown : Scheme → List ℕ → List ℕ → List (Option Opening) → Type 0
GroupsKnown S root s ways = AllKnown S (groups S) (λ g. root) s ways

-- for the groups of a tail record: what is lent is in its ranges
pub record GroupsLent (S : Scheme) (s : List ℕ) (count : ℕ) : Type 0 where
  pub in_range : InRange S S.n
  pub counted : 4 ≤ length s
  pub count_most : count ≤ 21

-- for four of them from g on
pub record FourGroups (S : Scheme) (root s : List ℕ) (g : ℕ) (ways : List (Option Opening)) : Type 0 where
  pub in_range : InRange S S.n
  pub group_most : g + 3 < 21
  pub known_so_far : GroupsKnown S root s ways
