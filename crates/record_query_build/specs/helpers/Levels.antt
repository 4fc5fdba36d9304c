-- A level as it is lent to a build, the level of a record by where its parts stand, and what code needs to put it.
use Rattle.std.specs.Prelude.{ℕ, ◌+◌, ◌*◌, ◌^◌, ◌≤◌, ◌<◌, ◌≡◌, List, ◌++◌, map}
use Rattle.theory_laws.specs.Table.{at}
use Rattle.theory_laws.specs.Lists.{part}
use Rattle.theory_field.specs.Words.{words}
use Rattle.theory_merkle.specs.Tree.{group_of}
use Rattle.bytes_numbers.specs.helpers.Put.{Put}
use Rattle.theory_record.specs.Widths.{Widths, widest, level_width, level_groups, level_depth}
use Rattle.theory_record.specs.Format.{LevelRecord, word_bytes, run_bytes, level_bytes}
use Rattle.theory_record.specs.Build.{level_start, tree_start}
use Rattle.tree_walk.specs.helpers.Paths.{path_from}
use Rattle.record_query_build.specs.declared.Level.{Level}

-- level l: its first word in the lent levels, its tree's first byte in the lent trees, and its sizes
unfoldable pub lent_level : Widths → ℕ → ℕ → ℕ → Level
lent_level s n k l =
    record {
      words_at = level_start n k l;
      tree_at = 32 * tree_start s n k l;
      width = level_width s n k l;
      depth = level_depth s n k l;
      groups = level_groups s n k l;
    }

-- the values of the group of a place of level x, and its path
unfoldable pub values_lent : List ℕ → Level → ℕ → List ℕ
values_lent ws x place = part x.width (x.words_at + x.width * group_of place x.width) ws

unfoldable pub path_lent : List ℕ → Level → ℕ → List (List ℕ)
path_lent ts x place = path_from x.depth ts x.tree_at x.groups (group_of place x.width)

-- the level of a record, of which q is the pair, from level x and the next, y
unfoldable pub open_lent : List ℕ → List ℕ → Level → Level → ℕ → LevelRecord
open_lent ws ts x y q =
    record {
      a = at ws (x.words_at + 2 * q);
      b = at ws (x.words_at + 2 * q + 1);
      c = at ws (y.words_at + q);
      a_group = values_lent ws x (2 * q);
      c_group = values_lent ws y q;
      a_path = path_lent ts x (2 * q);
      c_path = path_lent ts y q;
    }

-- how many bytes a group of level x and its path take, each after its count
abbrev pub opening_size : Level → ℕ
opening_size x = 8 + 16 * x.width + 32 * x.depth

-- the bytes of this level of a record, and how many there are
abbrev pub open_bytes : List ℕ → List ℕ → Level → Level → ℕ → List ℕ
open_bytes ws ts x y q = level_bytes (open_lent ws ts x y q)

abbrev pub open_size : Level → Level → ℕ
open_size x y = 48 + opening_size x + opening_size y

-- its three words: a and b, at places 2q and 2q + 1 of the level that starts at the word `first`, and c, at place q of the next
abbrev pub pair_bytes : List ℕ → ℕ → ℕ → ℕ → List ℕ
pair_bytes ws first next q = word_bytes (at ws (first + 2 * q)) ++ word_bytes (at ws (first + 2 * q + 1)) ++ word_bytes (at ws (next + q))

-- the groups of a record's level, each after its count, and the paths; and how many bytes there are
unfoldable pub groups_bytes : List ℕ → Level → Level → ℕ → List ℕ
groups_bytes ws x y q = run_bytes (map word_bytes (values_lent ws x (2 * q))) ++ run_bytes (map word_bytes (values_lent ws y q))

abbrev pub groups_size : Level → Level → ℕ
groups_size x y = 8 + 16 * x.width + 16 * y.width

unfoldable pub paths_bytes : List ℕ → Level → Level → ℕ → List ℕ
paths_bytes ts x y q = run_bytes (path_lent ts x (2 * q)) ++ run_bytes (path_lent ts y q)

abbrev pub paths_size : Level → Level → ℕ
paths_size x y = 8 + 32 * x.depth + 32 * y.depth

-- what putting a level of a record from a byte of a buffer on leaves, of levels and trees that are lent
abbrev pub LevelPut : List ℕ → ℕ → List ℕ → List ℕ → Level → Level → ℕ → List ℕ → ℕ → Type 0
LevelPut out from levels trees x y q out' r = Put out from (open_size x y) (open_bytes (words levels) trees x y q) out' r

-- the group of a place of level x is in the lent levels
pub record ValuesThere (levels : ℕ) (x : Level) (place : ℕ) : Type 0 where
  pub filled : 0 < x.width
  pub width-le : x.width ≤ widest
  pub values-there : 2 * (x.words_at + x.width * group_of place x.width + x.width) ≤ levels

-- and its path in the lent trees
pub record PathThere (trees : ℕ) (x : Level) (place : ℕ) : Type 0 where
  pub filled : 0 < x.width
  pub groups_are : x.groups ≡ 2 ^ x.depth
  pub groups_le : x.groups ≤ 16777216
  pub group_lt : group_of place x.width < x.groups
  pub tree_there : x.tree_at + 64 * x.groups ≤ trees + 32

-- what is put stands in what is lent, and fits: the words, the groups, the paths, and all three
pub record PairRoom (out from levels first next q : ℕ) : Type 0 where
  pub pair_there : 2 * (first + 2 * q + 2) ≤ levels
  pub c_there : 2 * (next + q + 1) ≤ levels
  pub fits : from + 48 ≤ out

pub record GroupsRoom (out from levels : ℕ) (x y : Level) (q : ℕ) : Type 0 where
  pub pair_small : 2 * q ≤ levels
  pub a_there : ValuesThere levels x (2 * q)
  pub c_there : ValuesThere levels y q
  pub fits : from + groups_size x y ≤ out

pub record PathsRoom (out from trees : ℕ) (x y : Level) (q : ℕ) : Type 0 where
  pub pair_small : q ≤ 16777216
  pub a_there : PathThere trees x (2 * q)
  pub c_there : PathThere trees y q
  pub fits : from + paths_size x y ≤ out

pub record Room (out from levels trees : ℕ) (x y : Level) (q : ℕ) : Type 0 where
  pub pair_there : 2 * (x.words_at + 2 * q + 2) ≤ levels
  pub c_there : 2 * (y.words_at + q + 1) ≤ levels
  pub pair_small : q ≤ 16777216
  pub a_values : ValuesThere levels x (2 * q)
  pub c_values : ValuesThere levels y q
  pub a_path_there : PathThere trees x (2 * q)
  pub c_path_there : PathThere trees y q
  pub fits : from + (48 + opening_size x + opening_size y) ≤ out
