-- The node messages on the way from a digest to the root, and what a function leaves that writes a message and hashes it. Rests on the
-- node message (SPECIFICATION 5.3) and on BLAKE3.
use Rattle.std.specs.Prelude.{ℕ, suc, ◌+◌, ◌*◌, ◌/◌, ◌^◌, ◌≤◌, ◌<◌, ◌≡◌, List, [], ◌∷◌, length, drop}
use Rattle.theory_laws.specs.Lists.{runs, flat, stored}
use Rattle.theory_merkle.specs.Message.{leaf_message, node_message}
use Rattle.theory_merkle.specs.Binding.{messages_of}
use Rattle.theory_record.specs.Widths.{widest}
use Rattle.record_opening.specs.helpers.Opening.{values_from}
use Rattle.theory_merkle.specs.Tree.{left, right}

-- of a digest d, number g of its level, along a path, the root's last
unfoldable pub nodes_of : (List ℕ → List ℕ) → List ℕ → ℕ → ℕ → List ℕ → List (List ℕ) → List (List ℕ)
nodes_of H domain level g d [] = []
nodes_of H domain level g d (s ∷ ss) =
    let m = node_message domain level (left g d s) (right g d s) in
    m ∷ nodes_of H domain (suc level) (g / 2) (H m) ss

-- the message m, of n bytes, stored from a place of a buffer on, and its digest
pub record Noted (H : List ℕ → List ℕ) (before : List ℕ) (from n : ℕ) (m after d : List ℕ) : Type 0 where
  pub bytes : after ≡ stored before from m
  pub size : length m ≡ n
  pub digest : d ≡ H m

-- the leaf message of a group whose values stand from a place of s on, at the front of a buffer
abbrev pub LeafNoted : (List ℕ → List ℕ) → List ℕ → List ℕ → ℕ → ℕ → ℕ → List ℕ → ℕ → List ℕ → List ℕ → Type 0
LeafNoted H before domain count width group s from after d =
    Noted H before 0 (97 + length domain + 16 * width) (leaf_message domain count width group (values_from s from width)) after d

-- there is room for it, of an s and a buffer so long
abbrev pub LeafRoom : ℕ → ℕ → ℕ → ℕ → ℕ → Type 0
LeafRoom domain width s from out = (width ≤ widest) × (from + 16 * width ≤ s) × (97 + domain + 16 * width ≤ out) × (out ≤ 2 ^ 24)

-- the node message of a digest, number g of its level, and its sibling, from a place of a buffer on
abbrev pub NodeNoted : (List ℕ → List ℕ) → List ℕ → ℕ → List ℕ → ℕ → ℕ → List ℕ → List ℕ → List ℕ → List ℕ → Type 0
NodeNoted H before at domain level g d sibling after e =
    Noted H before at (136 + length domain) (node_message domain level (left g d sibling) (right g d sibling)) after e

-- a buffer with the node messages of a leaf along the digests from a place of s on, from a place of it on
abbrev pub nodes_into : (List ℕ → List ℕ) → List ℕ → ℕ → List ℕ → ℕ → List ℕ → List ℕ → ℕ → ℕ → List ℕ
nodes_into H out from domain group leaf s path depth = stored out from (flat (nodes_of H domain 0 group leaf (runs 32 depth (drop path s))))

-- there is room for them, of an s and a buffer so long
abbrev pub NodesRoom : ℕ → ℕ → ℕ → ℕ → ℕ → ℕ → Type 0
NodesRoom domain s path depth from out = (domain ≤ 255) × (path + 32 * depth ≤ s) × (from + (136 + domain) * depth ≤ out)

-- a buffer with all messages of a way at its front
abbrev pub chain_into : (List ℕ → List ℕ) → List ℕ → List ℕ → ℕ → ℕ → ℕ → List ℕ → ℕ → ℕ → ℕ → List ℕ
chain_into H out domain count width place s from path depth =
    stored out 0 (flat (messages_of H domain count width place (values_from s from width) (runs 32 depth (drop path s))))

-- there is room for them, of an s and a buffer so long
abbrev pub ChainRoom : ℕ → ℕ → ℕ → ℕ → ℕ → ℕ → ℕ → Type 0
ChainRoom domain width s from path depth out =
    (domain ≤ 255) × (0 < width) × (width ≤ widest) × (from + 16 * width ≤ s) × (path + 32 * depth ≤ s)
    × (97 + domain + 16 * width + (136 + domain) * depth ≤ out) × (out ≤ 2 ^ 24)
