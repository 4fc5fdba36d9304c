-- Record bytes (SPECIFICATION 7): how records are written, and what bytes say, read from front to back. Bytes may be
-- anything, and a count whatever an enemy wrote: what is read has a meaning where the test beside it says that all of it is there.
-- Rests on parts of lists and little-endian numbers.
use Rattle.std.specs.Prelude.{ℕ, zero, suc, ◌+◌, ◌*◌, Bool, List, [], ◌∷◌, ◌++◌, map, leb, eqb, length, drop}
use Rattle.theory_laws.specs.Questions.{both}
use Rattle.theory_laws.specs.Lists.{part, runs, flat, le_bytes, le_value}

-- ---- words and counted runs

-- a word, 16 bytes, and the word that stands at a place
abbrev pub word_bytes : ℕ → List ℕ
word_bytes w = le_bytes 16 w

abbrev pub word_at : ℕ → List ℕ → ℕ
word_at i t = le_value (part 16 i t)

-- items of one size after their count, 4 bytes
unfoldable pub run_bytes : List (List ℕ) → List ℕ
run_bytes xs = le_bytes 4 (length xs) ++ flat xs

-- the count at the front of t
unfoldable pub run_count : List ℕ → ℕ
run_count t = le_value (part 4 0 t)

-- the bytes that count and items take, for items of this size; are they all there; what they say; what follows them
unfoldable pub run_size : ℕ → List ℕ → ℕ
run_size size t = 4 + size * run_count t

unfoldable pub run_fits : ℕ → List ℕ → Bool
run_fits size t = both (leb 4 (length t)) (leb (run_size size t) (length t))

unfoldable pub run_items : ℕ → List ℕ → List (List ℕ)
run_items size t = runs size (run_count t) (drop 4 t)

unfoldable pub after_run : ℕ → List ℕ → List ℕ
after_run size t = drop (run_size size t) t

-- ---- one level of a query record

pub record LevelRecord : Type 0 where
  -- the words at places 2q and 2q + 1 of the level, and at place q of the next
  pub a : ℕ
  pub b : ℕ
  pub c : ℕ
  -- the values of the group that has a and b, and of the group of the next level that has c
  pub a_group : List ℕ
  pub c_group : List ℕ
  -- the digests of their paths
  pub a_path : List (List ℕ)
  pub c_path : List (List ℕ)

unfoldable pub level_bytes : LevelRecord → List ℕ
level_bytes x =
    word_bytes x.a ++ word_bytes x.b ++ word_bytes x.c
    ++ run_bytes (map word_bytes x.a_group) ++ run_bytes (map word_bytes x.c_group) ++ run_bytes x.a_path ++ run_bytes x.c_path

-- where its parts begin, and what follows it
unfoldable pub from_aGroup : List ℕ → List ℕ
from_aGroup t = drop 48 t

unfoldable pub from_cGroup : List ℕ → List ℕ
from_cGroup t = after_run 16 (from_aGroup t)

unfoldable pub from_aPath : List ℕ → List ℕ
from_aPath t = after_run 16 (from_cGroup t)

unfoldable pub from_cPath : List ℕ → List ℕ
from_cPath t = after_run 32 (from_aPath t)

unfoldable pub after_level : List ℕ → List ℕ
after_level t = after_run 32 (from_cPath t)

unfoldable pub level_fits : List ℕ → Bool
level_fits t =
    both (leb 48 (length t))
    (both (run_fits 16 (from_aGroup t)) (both (run_fits 16 (from_cGroup t)) (both (run_fits 32 (from_aPath t)) (run_fits 32 (from_cPath t)))))

unfoldable pub level_read : List ℕ → LevelRecord
level_read t =
    record {
      a = word_at 0 t;
      b = word_at 16 t;
      c = word_at 32 t;
      a_group = map le_value (run_items 16 (from_aGroup t));
      c_group = map le_value (run_items 16 (from_cGroup t));
      a_path = run_items 32 (from_aPath t);
      c_path = run_items 32 (from_cPath t);
    }

-- ---- one group of a tail record

pub record TailGroup : Type 0 where
  pub values : List ℕ
  pub path : List (List ℕ)

unfoldable pub tail_group_bytes : TailGroup → List ℕ
tail_group_bytes x = run_bytes (map word_bytes x.values) ++ run_bytes x.path

unfoldable pub from_tail_path : List ℕ → List ℕ
from_tail_path t = after_run 16 t

unfoldable pub after_tail_group : List ℕ → List ℕ
after_tail_group t = after_run 32 (from_tail_path t)

unfoldable pub tail_group_fits : List ℕ → Bool
tail_group_fits t = both (run_fits 16 t) (run_fits 32 (from_tail_path t))

unfoldable pub tail_group_of : List ℕ → TailGroup
tail_group_of t = record { values = map le_value (run_items 16 t); path = run_items 32 (from_tail_path t) }

-- ---- records: their items after their count, and nothing after these

-- how one kind of item is written and read: its bytes; whether it is all there at the front of bytes, what it says, what follows it
pub record Form (A : Type 0) : Type 0 where
  pub write : A → List ℕ
  pub fits : List ℕ → Bool
  pub read : List ℕ → A
  pub after : List ℕ → List ℕ

module _ {A : Type 0} (form : Form A) where
  unfoldable pub items_bytes : List A → List ℕ
  items_bytes [] = []
  items_bytes (x ∷ xs) = form.write x ++ items_bytes xs

  unfoldable pub record_bytes : List A → List ℕ
  record_bytes xs = le_bytes 4 (length xs) ++ items_bytes xs

  -- c items at the front of t; are they all there, with nothing after them
  unfoldable pub items_of : ℕ → List ℕ → List A
  items_of zero t = []
  items_of (suc c) t = form.read t ∷ items_of c (form.after t)

  unfoldable pub whole_items : ℕ → List ℕ → Bool
  whole_items zero t = eqb (length t) 0
  whole_items (suc c) t = both (form.fits t) (whole_items c (form.after t))

  -- does the record read whole, nothing after it (question 14)
  unfoldable pub record_whole : List ℕ → Bool
  record_whole s = both (leb 4 (length s)) (whole_items (run_count s) (drop 4 s))

  -- the first c items of the record
  unfoldable pub record_items : ℕ → List ℕ → List A
  record_items c s = items_of c (drop 4 s)

-- a query record has levels, a tail record has groups
abbrev pub level_form : Form LevelRecord
level_form = record { write = level_bytes; fits = level_fits; read = level_read; after = after_level }

abbrev pub tail_form : Form TailGroup
tail_form = record { write = tail_group_bytes; fits = tail_group_fits; read = tail_group_of; after = after_tail_group }
