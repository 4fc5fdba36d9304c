-- Comparing two query records (SPECIFICATION 9): the number, and the two
-- messages, nearest the root, in which the records differ. Rests on the check of query records and on the messages of a path.
use Rattle.std.specs.Prelude.{ℕ, suc, ◌+◌, ◌-◌, ◌*◌, ◌^◌, Bool, not, List, [], ◌∷◌, ◌++◌, leb, ltb, eqb, length, replicate}
use Rattle.theory_laws.specs.Questions.{Question, ◌asks◌, first_no, on_done}
use Rattle.theory_laws.specs.Lists.{same}
use Rattle.theory_merkle.specs.Binding.{Found, none, pair, or_else, collision}
use Rattle.theory_record.specs.Widths.{Widths, level_length, level_width}
use Rattle.theory_record.specs.Domain.{level_domain, domain_room}
use Rattle.theory_record.specs.Format.{LevelRecord, level_form, record_items}
use Rattle.theory_record.specs.Query.{pair_of, size_questions, check_query}
use Rattle.theory_record.specs.Scheme.{Scheme}

-- ---- the messages that two records differ in

module _ (S : Scheme) where
  open S use {digest as H, widths as s, base, n, k}

  -- of two groups and paths for one place of level l: the messages nearest the root that differ
  unfoldable pub opening_found : ℕ → ℕ → List ℕ → List (List ℕ) → List ℕ → List (List ℕ) → Found
  opening_found l place values path values' path' =
      collision H (level_domain base l) (level_length n k l) (level_width s n k l) place values path values' path'

  -- of level l, of which q is the pair: path a before path c
  unfoldable pub pair_found : ℕ → ℕ → LevelRecord → LevelRecord → Found
  pair_found l q x y =
      or_else (opening_found l (2 * q) x.a_group x.a_path y.a_group y.a_path) (opening_found (suc l) q x.c_group x.c_path y.c_group y.c_path)

  -- level by level, from l on: the lowest level that differs
  unfoldable pub levels_found : ℕ → ℕ → List LevelRecord → List LevelRecord → Found
  levels_found position l [] ys = none
  levels_found position l (x ∷ xs) [] = none
  levels_found position l (x ∷ xs) (y ∷ ys) = or_else (pair_found l (pair_of position l) x y) (levels_found position (suc l) xs ys)

  -- of the bytes of two records for one position
  unfoldable pub records_found : ℕ → List ℕ → List ℕ → Found
  records_found position first second = levels_found position 0 (record_items level_form n first) (record_items level_form n second)

-- ---- what is found, in the lent buffers

-- the first message and the second; none has no bytes
abbrev pub first_of : Found → List ℕ
first_of none = []
first_of (pair m m') = m

abbrev pub second_of : Found → List ℕ
second_of none = []
second_of (pair m m') = m'

-- how long a message of a set gets: a leaf message under the longest domain with a group of the set's width
abbrev pub longest_leaf : Widths → ℕ
longest_leaf s = 97 + domain_room + 16 * s.width

-- the length of a buffer for a message, under either set
abbrev pub message_buffer : ℕ
message_buffer = 1024

-- a message in its buffer, zeros after it
unfoldable pub in_buffer : List ℕ → List ℕ
in_buffer m = m ++ replicate (message_buffer - length m) 0

-- the buffers of the first and of the second message, which were `old`: without a message nothing is written
abbrev pub first_buffer : Found → List ℕ → List ℕ
first_buffer none old = old
first_buffer (pair m m') old = in_buffer m

abbrev pub second_buffer : Found → List ℕ → List ℕ
second_buffer none old = old
second_buffer (pair m m') old = in_buffer m'

-- ---- the answer: the number and the lengths of the two messages

pub record Comparison : Type 0 where
  pub number : ℕ
  pub first : ℕ
  pub second : ℕ

-- is a record accepted by 14 to 26, lent what the check is lent (4, 5, 7 and 11 are put before)
unfoldable pub accepts : Scheme → ℕ → List ℕ → List ℕ → List ℕ → Bool
accepts S position challenges roots bytes = eqb (check_query S position challenges roots bytes).number 0

-- lent: what the check is lent, two records, and the two buffers as they were
module _ (S : Scheme) (position : ℕ) (challenges roots first second old old' : List ℕ) where
  open S use {base, n, k}

  abbrev pub compare_questions : List Question
  compare_questions =
      size_questions n k
      ++ (5 asks eqb (length challenges) (2 * n)) ∷
      (5 asks eqb (length roots) (32 * (n + 1))) ∷
      (5 asks eqb (length old) message_buffer) ∷
      (5 asks eqb (length old') message_buffer) ∷
      (7 asks leb (length base) 200) ∷
      (11 asks ltb position (2 ^ (n + k))) ∷
      (32 asks accepts S position challenges roots first) ∷
      (32 asks accepts S position challenges roots second) ∷
      (33 asks not (same first second)) ∷
      []

  unfoldable pub compare_number : ℕ
  compare_number = first_no compare_questions

  -- the two messages
  abbrev pub compare_found : Found
  compare_found = records_found S position first second

  unfoldable pub compared : Comparison
  compared =
      on_done compare_number
      (record { number = 0; first = length (first_of compare_found); second = length (second_of compare_found) })
      (record { number = compare_number; first = 0; second = 0 })

  -- the buffers afterwards
  unfoldable pub first_message : List ℕ
  first_message = on_done compare_number (first_buffer compare_found old) old

  unfoldable pub second_message : List ℕ
  second_message = on_done compare_number (second_buffer compare_found old') old'
