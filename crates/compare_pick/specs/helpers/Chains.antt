-- Two chains of messages lent end to end, and what is left where the messages that differ are looked for. Rests on merkle's lists of
-- messages and on comparing's buffers.
use Rattle.std.specs.Prelude.{ℕ, ◌+◌, ◌*◌, ◌≤◌, ◌<◌, ◌≡◌, Option, MatchOption, List, ◌∷◌, length, drop}
use Rattle.theory_laws.specs.Lists.{part, runs}
use Rattle.theory_merkle.specs.Binding.{Found, none, pair}
use Rattle.theory_compare.specs.Compare.{first_buffer, second_buffer, message_buffer}
use Rattle.theory_compare.specs.Lent.{MutSlice}

-- a chain: a message of the length `leaf`, and as many as `depth` of the length `node`
unfoldable pub chain_of : ℕ → ℕ → ℕ → List ℕ → List (List ℕ)
chain_of leaf node depth bytes = part leaf 0 bytes ∷ runs node depth (drop leaf bytes)

-- two chains are all there, their messages are not empty and have room in the buffers
pub record Chains (leaf node depth : ℕ) (a b first second : List ℕ) : Type 0 where
  pub leaf_some : 0 < leaf
  pub node_some : 0 < node
  pub leaf_fits : leaf ≤ message_buffer
  pub node_fits : node ≤ message_buffer
  pub first-there : leaf + node * depth ≤ length a
  pub second_there : leaf + node * depth ≤ length b
  pub first-room : length first ≡ message_buffer
  pub second_room : length second ≡ message_buffer

-- the length of what was found, one for both messages
abbrev pub IsLong : Found → ℕ → Type 0
IsLong none n = ⊥
IsLong (pair m m') n = (n ≡ length m) × (n ≡ length m')

-- what was found, in buffers that were old and old' and are new and new', and as the answer r its length; None: nothing
pub record Picked (f : Found) (old old' new new' : List ℕ) (r : Option ℕ) : Type 0 where
  pub first-is : new ≡ first_buffer f old
  pub second_is : new' ≡ second_buffer f old'
  pub answer : MatchOption r (f ≡ none) (λ n. IsLong f n)

-- in two buffers, as they are at a function's entry and exit
abbrev pub PickedIn : Found → MutSlice → MutSlice → Option ℕ → Type 0
PickedIn f first second r = Picked f first.entry.now second.entry.now first.exit.now second.exit.now r

-- a message of each of two chains, not empty, is there, of chains so long, and has room in buffers so long
abbrev pub MessagesThere : ℕ → ℕ → ℕ → ℕ → ℕ → ℕ → Type 0
MessagesThere len from a b first second =
    (0 < len) × (len ≤ message_buffer) × (from + len ≤ a) × (from + len ≤ b) × (first ≡ message_buffer) × (second ≡ message_buffer)
