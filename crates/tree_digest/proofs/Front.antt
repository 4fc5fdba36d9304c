-- Messages whose first blocks are hashed already: their digests, and the node messages of all levels, which have a front in common.
use Prim.Native.Nat.{ℕ, ◌+◌, ◌-◌, ◌*◌, ◌/◌, ◌≤◌}
use mathlib.Core.Path.{◌≡◌, sym, ◌∙◌, ap}
use mathlib.Core.List.{List, ◌++◌, append_assoc, append-nil}
use native.Mathlib.Omega.{arith}
use lib.ListN.{length, take, drop, length-append, length-drop}
use lib.Seq.{length-take-le, take_all, take_at, take-take}
use Rattle.theory_laws.specs.Lists.{flat, le_bytes}
use Rattle.theory_laws.proofs.Lists.{length-le_bytes, length-stored}
use Rattle.theory_blake3.specs.Flags.{start_flag}
use Rattle.theory_blake3.specs.Compression.{cv}
use Rattle.theory_blake3.specs.Chunk.{chunk_from}
use Rattle.theory_blake3.specs.Digest.{bytes_of_words32}
use Rattle.theory_blake3.specs.declared.Mode.{Mode}
use Rattle.theory_blake3.specs.Modes.{under}
use Rattle.theory_merkle.specs.Message.{prefixed, serialize_prefix, node_label, node_prefix}
use Rattle.theory_merkle.specs.Tree.{node_digest}
use Rattle.theory_merkle.proofs.Message.{length-prefixed, node_message-is}
use Rattle.hash_chunk.specs.helpers.Blocks.{first_blocks}
use Rattle.hash_chunk.proofs.Blocks.{digest-after, first_blocks-append}
use Rattle.bytes_numbers.specs.helpers.Put.{Put}
use Rattle.bytes_numbers.proofs.Stores.{then_put}
use Rattle.tree_digest.specs.helpers.Begun.{node_front, Begun, Front, NodesBegun}
use Rattle.tree_digest.specs.helpers.Hashed.{Hashed}
use Rattle.tree_digest.proofs.Messages.{message-length, message-is, message_hashed, prefix-is}

-- the digest of what is left of a message
pub after_hashed : (mode : Mode) (h : List ℕ) (blocks : ℕ) (message : List ℕ) {r v w : List ℕ} → Begun mode h blocks message → r ≡ bytes_of_words32 v → v ≡ cv w
    → w ≡ chunk_from mode.flags (15 - blocks) h (start_flag blocks) 0 (take (length message - 64 * blocks) (drop (64 * blocks) message)) 8
    → r ≡ under mode message
unfolding under
after_hashed mode h blocks message b er ev ew =
    let all : take (length message - 64 * blocks) (drop (64 * blocks) message) ≡ drop (64 * blocks) message =
    take_all (length message - 64 * blocks) (drop (64 * blocks) message) (simp length-drop (omega arith)) in
    er ∙ ap bytes_of_words32 (ev ∙ ap cv (rw all at ew)) ∙ digest-after mode.key mode.flags blocks h message b.value b.followed b.chunk

-- ---- a node message after a front: the level's number, and two digests

module _ (mode : Mode) (h : List ℕ) (front : ℕ) (o : List ℕ) (f : Front mode h front o) (a rest o1 o2 : List ℕ) (j k : ℕ)
    (p : Put o front 8 a o1 j) (q : Put o1 j 80 rest o2 k) where
  both : Put o front 88 (a ++ rest) o2 k
  both = then_put o front 8 a o1 j 80 rest o2 k p q

  pub front_length : k ≡ length (take k o2)
  front_length = message-length o front 88 (a ++ rest) o2 k both f.room

  pub front-begun : Begun mode h (front / 64) (take k o2)
  front-begun =
      let w : length (take front o) ≡ front = length-take-le front o (omega (arith, f.room)) in
      record {
        value =
            f.value ∙ sym (first_blocks-append mode.key mode.flags (front / 64) (take front o) (a ++ rest) (omega arith))
            ∙ ap (first_blocks mode.key mode.flags (front / 64)) (sym (message-is o front 88 (a ++ rest) o2 k both f.room));
        followed = omega (arith, front_length, both.end);
        chunk = omega (arith, front_length, both.end, f.chunk);
      }

  pub front_hashed : (H : List ℕ → List ℕ) (d : List ℕ) → d ≡ H (take k o2) → Hashed H o front (a ++ rest) o2 d
  front_hashed H d e = message_hashed o front 88 (a ++ rest) o2 k both f.room H d e

-- ---- the front of the node messages under a domain

pub length-node_front : (domain : List ℕ) → length (node_front domain) ≡ 48 + length domain
unfolding node_front node_label
length-node_front domain = simp (length-append, length-le_bytes, length-prefixed) (omega arith)

-- with the number of any level after it, it is that level's prefix
pub front-first : (domain : List ℕ) (level : ℕ) → node_prefix domain level ≡ node_front domain ++ le_bytes 8 level
unfolding node_prefix node_front serialize_prefix flat prefixed
front-first domain level = simp (append_assoc, append-nil, length-le_bytes)

front_node : (H : List ℕ → List ℕ) (domain : List ℕ) (level : ℕ) (l r m d : List ℕ) → m ≡ node_front domain
    → d ≡ H (m ++ (le_bytes 8 level ++ (prefixed l ++ prefixed r))) → d ≡ node_digest H domain level l r
unfolding node_digest
front_node H domain level l r m d e h =
    h ∙ ap H (sym (append_assoc m (le_bytes 8 level) (prefixed l ++ prefixed r)) ∙ ap (λ (x : List ℕ). (x ++ le_bytes 8 level) ++ (prefixed l ++ prefixed r)) e
    ∙ ap (λ (x : List ℕ). x ++ (prefixed l ++ prefixed r)) (sym (front-first domain level)) ∙ sym (node_message-is domain level l r))

pub nodes_length : (o domain o1 : List ℕ) (n : ℕ) → Put o 0 (56 + length domain) (node_prefix domain 0) o1 n → 136 + length domain ≤ length o
    → n - 8 ≡ length (take (n - 8) o1)
nodes_length o domain o1 n p room =
    let l : length o1 ≡ length o = ap length p.bytes ∙ length-stored o 0 (node_prefix domain 0) in
    sym (length-take-le (n - 8) o1 (omega (arith, p.end)))

module _ (mode : Mode) (h domain : List ℕ) where
  -- begun
  pub nodes_begun : (o o1 : List ℕ) (n front : ℕ) → Put o 0 (56 + length domain) (node_prefix domain 0) o1 n → length domain ≤ 255 → 136 + length domain ≤ length o
      → front ≡ n - 8 → h ≡ first_blocks mode.key mode.flags (front / 64) (take front o1) → NodesBegun mode h domain o1
  nodes_begun o o1 n front p small room ef eh =
      let e : front ≡ 48 + length domain = omega (arith, p.end) in
      let l : length o1 ≡ length o = ap length p.bytes ∙ length-stored o 0 (node_prefix domain 0) in
      let w : take n o1 ≡ node_prefix domain 0 = prefix-is o (56 + length domain) (node_prefix domain 0) o1 n p (omega arith) in
      record {
        front = record { value = rw e at eh; room = omega arith; chunk = omega arith };
        bytes = sym (take-take (48 + length domain) n o1 (omega (arith, p.end))) ∙ ap (take (48 + length domain)) (w ∙ front-first domain 0)
            ∙ take_at (node_front domain) (le_bytes 8 0) (48 + length domain) (length-node_front domain);
      }

  -- and kept, with the digest of a node
  pub nodes_kept : (o rest o1 d : List ℕ) → NodesBegun mode h domain o → Hashed (under mode) o (48 + length domain) rest o1 d → length o1 ≡ length o
      → NodesBegun mode h domain o1
  nodes_kept o rest o1 d b k l =
      record {
        front = record {
          value = b.front.value ∙ ap (first_blocks mode.key mode.flags ((48 + length domain) / 64)) (sym k.kept);
          room = omega (arith, b.front.room);
          chunk = b.front.chunk;
        };
        bytes = k.kept ∙ b.bytes;
      }

  pub nodes_hashed : (level : ℕ) (l r o o1 d : List ℕ) → NodesBegun mode h domain o
      → Hashed (under mode) o (48 + length domain) (le_bytes 8 level ++ (prefixed l ++ prefixed r)) o1 d → d ≡ node_digest (under mode) domain level l r
  nodes_hashed level l r o o1 d b k = front_node (under mode) domain level l r (take (48 + length domain) o) d b.bytes k.digest
