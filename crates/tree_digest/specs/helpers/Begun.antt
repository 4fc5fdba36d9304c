-- What is required of a message whose first blocks are hashed already, and of a buffer for node messages that have these in common.
use Rattle.std.specs.Prelude.{ℕ, ◌+◌, ◌*◌, ◌/◌, ◌≤◌, ◌<◌, ◌≡◌, List, ◌++◌, length, take}
use Rattle.theory_laws.specs.Lists.{le_bytes}
use Rattle.theory_blake3.specs.declared.Mode.{Mode}
use Rattle.theory_merkle.specs.Message.{prefixed, node_label}
use Rattle.hash_chunk.specs.helpers.Blocks.{first_blocks}

-- what all node messages under a domain begin with: all that stands before the level's number
unfoldable pub node_front : List ℕ → List ℕ
node_front domain = le_bytes 8 5 ++ (prefixed node_label ++ (prefixed domain ++ le_bytes 8 8))

-- a message of at most a chunk, whose first blocks have the chaining value h under a mode, and are followed by something
pub record Begun (mode : Mode) (h : List ℕ) (blocks : ℕ) (message : List ℕ) : Type 0 where
  pub value : h ≡ first_blocks mode.key mode.flags blocks message
  pub followed : 64 * blocks < length message
  pub chunk : length message ≤ 1024

-- a buffer for node messages: they have its first bytes, the front, in common, and h is the chaining value of the front's whole blocks
pub record Front (mode : Mode) (h : List ℕ) (front : ℕ) (buffer : List ℕ) : Type 0 where
  pub value : h ≡ first_blocks mode.key mode.flags (front / 64) (take front buffer)
  pub room : front + 88 ≤ length buffer
  pub chunk : front + 88 ≤ 1024

-- the same buffer, where the front is that of the node messages under a domain
pub record NodesBegun (mode : Mode) (h domain buffer : List ℕ) : Type 0 where
  pub front : Front mode h (48 + length domain) buffer
  pub bytes : take (48 + length domain) buffer ≡ node_front domain
