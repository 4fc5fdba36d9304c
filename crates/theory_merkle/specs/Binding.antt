-- The messages that are hashed on the way from a group to the root, and the two of them, nearest the root, in which two ways differ.
use Rattle.std.specs.Prelude.{ℕ, suc, ◌/◌, ◌≡◌, List, [], ◌∷◌, ◌++◌, length}
use Rattle.theory_laws.specs.Questions.{pick}
use Rattle.theory_laws.specs.Lists.{same}
use Rattle.theory_merkle.specs.Message.{leaf_message, node_message}
use Rattle.theory_merkle.specs.Tree.{group_of, left, right}

-- what a comparison finds: two messages that differ, or none
pub data Found : Type 0 where
  none : Found
  pair : List ℕ → List ℕ → Found

-- the first, or else the second
abbrev pub or_else : Found → Found → Found
or_else none f = f
or_else (pair m m') f = pair m m'

-- two messages if they differ
unfoldable pub differing : List ℕ → List ℕ → Found
differing m m' = pick (same m m') none (pair m m')

-- the last place at which two lists of messages differ
unfoldable pub last_differing : List (List ℕ) → List (List ℕ) → Found
last_differing [] ms' = none
last_differing (m ∷ ms) [] = none
last_differing (m ∷ ms) (m' ∷ ms') = or_else (last_differing ms ms') (differing m m')

module _ (H : List ℕ → List ℕ) (domain : List ℕ) where
  -- the message m, whose digest is number g of its level, and the messages on its way along a path, the root's last
  unfoldable pub messages : ℕ → ℕ → List ℕ → List (List ℕ) → List (List ℕ)
  messages level g m [] = m ∷ []
  messages level g m (s ∷ ss) = m ∷ messages (suc level) (g / 2) (node_message domain level (left g (H m) s) (right g (H m) s)) ss

  -- the messages from the group of a place to the root
  unfoldable pub messages_of : ℕ → ℕ → ℕ → List ℕ → List (List ℕ) → List (List ℕ)
  messages_of count width place values ss = messages 0 (group_of place width) (leaf_message domain count width (group_of place width) values) ss

  -- the messages, nearest the root, in which two (group, path) pairs for one place differ
  unfoldable pub collision : ℕ → ℕ → ℕ → List ℕ → List (List ℕ) → List ℕ → List (List ℕ) → Found
  collision count width place values ss values' ss' = last_differing (messages_of count width place values ss) (messages_of count width place values' ss')

-- what "nearest the root" means, apart from how the messages are found: x and x' stand at one place of two lists of messages, the root's
-- last, and the lists agree from there on
pub record Nearest (ms ms' : List (List ℕ)) (x x' : List ℕ) : Type 0 where
  pub below : List (List ℕ)
  pub below' : List (List ℕ)
  pub above : List (List ℕ)
  pub first : ms ≡ below ++ (x ∷ above)
  pub second : ms' ≡ below' ++ (x' ∷ above)
  pub level : length below ≡ length below'
