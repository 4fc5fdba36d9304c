-- The messages that are hashed on the way from a group of a level to its root (SPECIFICATION 9.2, under the level's domain), where the
-- group and the path stand at bytes of a record, and what is picked of two of them. Rests on merkle's lists of messages, on the levels'
-- widths and domains, and on comparing.
use Rattle.std.specs.Prelude.{ℕ, ◌+◌, ◌*◌, ◌≡◌, List, length}
use Rattle.theory_laws.specs.Lists.{flat}
use Rattle.theory_merkle.specs.Binding.{Found, messages_of}
use Rattle.theory_record.specs.Widths.{widest}
use Rattle.theory_record.specs.Domain.{domain_room}
use Rattle.theory_record.specs.Scheme.{Scheme, length_at, width_at, domain_at}
use Rattle.record_opening.specs.helpers.Opening.{values_at, digests_at, Sized}
use Rattle.theory_compare.specs.Compare.{opening_found, message_buffer}

-- the length of a buffer for all of them, 9,098: a leaf message of the most values under the longest level domain, and 24 node messages
abbrev pub chain_buffer : ℕ
chain_buffer = 97 + domain_room + 16 * widest + 24 * (136 + domain_room)

-- the messages from the group of a place of level l to the root
unfoldable pub level_messages : Scheme → ℕ → ℕ → List ℕ → List (List ℕ) → List (List ℕ)
level_messages S l place values path = messages_of S.digest (domain_at S l) (length_at S l) (width_at S l) place values path

-- of the group and the path at two bytes of s, end to end
abbrev pub chain_at : Scheme → ℕ → ℕ → List ℕ → ℕ → ℕ → List ℕ
chain_at S l place s group path = flat (level_messages S l place (values_at s group) (digests_at s path))

-- what differs in such a group and path of s and in those of t
abbrev pub found_at : Scheme → ℕ → ℕ → List ℕ → ℕ → ℕ → List ℕ → ℕ → ℕ → Found
found_at S l place s sgroup spath t tgroup tpath =
    opening_found S l place (values_at s sgroup) (digests_at s spath) (values_at t tgroup) (digests_at t tpath)

-- the groups and the paths are there, of the level's width and depth, and so is room for a message of each
pub record BothSized (S : Scheme) (l : ℕ) (s : List ℕ) (sgroup spath : ℕ) (t : List ℕ) (tgroup tpath : ℕ) (first second : List ℕ) : Type 0 where
  pub first_sized : Sized S l s sgroup spath
  pub second_sized : Sized S l t tgroup tpath
  pub first-room : length first ≡ message_buffer
  pub second_room : length second ≡ message_buffer
