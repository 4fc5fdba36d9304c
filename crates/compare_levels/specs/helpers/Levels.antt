-- The levels of two records by the places at which their groups and paths stand, and what is known of two accepted records. Rests on
-- what comparing finds of a group and a path.
use Rattle.std.specs.Prelude.{ℕ, ◌+◌, ◌*◌, ◌<◌, ◌≡◌, List, length}
use Rattle.theory_merkle.specs.Binding.{Found, or_else}
use Rattle.theory_record.proofs.Query.{QueryAccepted}
use Rattle.record_reader.specs.declared.Level.{Level}
use Rattle.record_opening.specs.helpers.Opening.{Sized}
use Rattle.compare_opening.specs.helpers.Messages.{found_at}
use Rattle.theory_record.specs.Scheme.{Scheme}
use Rattle.theory_compare.specs.Compare.{message_buffer}

-- of level l of the records s and t: path a before path c, which is of the next level
unfoldable pub places_found : Scheme → ℕ → ℕ → List ℕ → Level → List ℕ → Level → Found
places_found S l q s x t y =
    or_else
    (found_at S l (2 * q) s x.a.group_at x.a.path_at t y.a.group_at y.a.path_at)
    (found_at S (l + 1) q s x.c.group_at x.c.path_at t y.c.group_at y.c.path_at)

-- the groups and paths of level l at their places in s
pub record LevelSized (S : Scheme) (l : ℕ) (s : List ℕ) (v : Level) : Type 0 where
  pub a_sized : Sized S l s v.a.group_at v.a.path_at
  pub c_sized : Sized S (l + 1) s v.c.group_at v.c.path_at

-- the same in s and in t, of a pair that there is, and room for a message of each
pub record LevelsSized (S : Scheme) (l q : ℕ) (s : List ℕ) (x : Level) (t : List ℕ) (y : Level) (first second : List ℕ) : Type 0 where
  pub pair_most : q < 16777216
  pub first_sized : LevelSized S l s x
  pub second_sized : LevelSized S l t y
  pub first-room : length first ≡ message_buffer
  pub second_room : length second ≡ message_buffer

-- two records that are accepted for one position, under some challenges and roots, and buffers for a message of each
pub record Comparable (S : Scheme) (position : ℕ) (first second message message' : List ℕ) : Type 0 where
  pub challenges : List ℕ
  pub roots : List ℕ
  pub first_accepted : QueryAccepted S position challenges roots first
  pub second_accepted : QueryAccepted S position challenges roots second
  pub first-room : length message ≡ message_buffer
  pub second_room : length message' ≡ message_buffer
