-- Four ways up at once: four leaves or digests, each under a domain of its own, and the paths that stand in one list of bytes.
use Rattle.std.specs.Prelude.{ℕ, ◌+◌, ◌*◌, ◌/◌, ◌^◌, ◌≤◌, ◌<◌, ◌≡◌, List, ◌++◌, map, ltb, drop}
use Rattle.theory_laws.specs.Lists.{part, runs, le_bytes, le_value}
use Rattle.theory_laws.specs.Table.{at}
use Rattle.theory_laws.specs.Questions.{pick}
use Rattle.theory_merkle.specs.Message.{prefixed, leaf_message}
use Rattle.theory_merkle.specs.Tree.{left, right, climb}
use Rattle.bytes_reader.specs.Windows.{window}

-- what follows the front of a node message: the level's number, and the digest with number g of its level and its sibling, by their sides
unfoldable pub node_end : ℕ → ℕ → List ℕ → List ℕ → List ℕ
node_end level g d other = le_bytes 8 level ++ (prefixed (left g d other) ++ prefixed (right g d other))

-- the domain of lane k, of four that stand in strides of 256 bytes
abbrev pub domain_of : List ℕ → ℕ → ℕ → List ℕ
domain_of domains size k = part size (256 * k) domains

-- the digest of lane k
abbrev pub digest_of : List ℕ → ℕ → List ℕ
digest_of digests k = part 32 (32 * k) digests

-- what follows in lane k at a level; past the end of the bytes a sibling is zeros
abbrev pub lane_rest : ℕ → List ℕ → List ℕ → List ℕ → List ℕ → ℕ → List ℕ
lane_rest level groups digests s from k = node_end level (at groups k / 2 ^ level) (digest_of digests k) (window s (at from k + 32 * level))

-- lane k of r is the new digest while its way goes on, and what it was from then on
abbrev pub Settled : List ℕ → (ℕ → List ℕ) → ℕ → List ℕ → List ℕ → Type 0
Settled digests new level depths r = (k : ℕ) → k < 4 → digest_of r k ≡ pick (ltb level (at depths k)) (new k) (digest_of digests k)

-- each path is all there, and none is longer than `deepest`
pub record Paths (from depths : List ℕ) (deepest s : ℕ) : Type 0 where
  pub deep : deepest ≤ 32
  pub there : (k : ℕ) → k < 4 → at from k + 32 * at depths k ≤ s
  pub within : (k : ℕ) → k < 4 → at depths k ≤ deepest
  pub low : (k : ℕ) → k < 4 → at from k < 2 ^ 62

-- where the digest of lane k and its path lead to
abbrev pub way_up : (H : List ℕ → List ℕ) → List ℕ → ℕ → List ℕ → List ℕ → List ℕ → List ℕ → List ℕ → ℕ → List ℕ
way_up H domains size groups digests s from depths k =
    climb H (domain_of domains size k) 0 (at groups k) (digest_of digests k) (runs 32 (at depths k) (drop (at from k) s))

-- ---- leaves

-- so many values, 16 bytes each, from the front of a list of bytes
abbrev pub values_in : ℕ → List ℕ → List ℕ
values_in width s = map le_value (runs 16 width s)

-- the values of lane k, from a byte of s on
abbrev pub lane_values : List ℕ → List ℕ → ℕ → ℕ → List ℕ
lane_values s from width k = values_in width (drop (at from k) s)

-- the leaf message of lane k
abbrev pub lane_leaf : List ℕ → ℕ → List ℕ → ℕ → List ℕ → List ℕ → List ℕ → ℕ → List ℕ
lane_leaf domains size counts width groups s from k =
    leaf_message (domain_of domains size k) (at counts k) width (at groups k) (lane_values s from width k)

-- each group is all there, and none has more than 32 values
abbrev pub GroupsThere : List ℕ → ℕ → ℕ → Type 0
GroupsThere from width s = (width ≤ 32) × ((k : ℕ) → k < 4 → at from k + 16 * width ≤ s)
