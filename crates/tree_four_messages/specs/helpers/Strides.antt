-- Four messages of one length in a buffer of four strides, a chunk (1024 bytes) each: message k stands at the front of stride k.
use Rattle.std.specs.Prelude.{ℕ, ◌+◌, ◌*◌, ◌^◌, ◌≤◌, ◌<◌, ◌≡◌, List, [], ◌∷◌, ◌++◌, length}
use Rattle.theory_laws.specs.Lists.{part}
use Rattle.theory_blake3.specs.declared.Mode.{Mode}
use Rattle.theory_field.specs.Words.{words}
use Rattle.hash_chunk.specs.helpers.Blocks.{first_blocks}
use Rattle.theory_merkle.specs.Message.{prefixed, leaf_rest}

-- the four items of a table
abbrev pub four : (ℕ → List ℕ) → List (List ℕ)
four f = f 0 ∷ f 1 ∷ f 2 ∷ f 3 ∷ []

-- a stride: the bytes of a chunk, the most that are hashed at once
abbrev pub stride : ℕ
stride = 1024

-- the n bytes at the front of stride k are f k, for each stride
abbrev pub Each : ℕ → List ℕ → (ℕ → List ℕ) → Type 0
Each n l f = (k : ℕ) → k < 4 → part n (stride * k) l ≡ f k

-- a message of at most a chunk for each of four groups, whose words are lent, in a buffer of four strides
pub record LeafRoom (prefix width group values messages : ℕ) : Type 0 where
  pub halves : values ≡ 8 * width
  pub chunk : prefix + (24 + 16 * width) ≤ stride
  pub strides : 4 * stride ≤ messages
  pub numbers : group < 2 ^ 32

-- in m each stride has the prefix that it has in l, and after it the leaf rest of group number `group` + k
abbrev pub LeafRests : ℕ → List ℕ → ℕ → ℕ → List ℕ → List ℕ → Type 0
LeafRests prefix l width group values m =
    Each (prefix + (24 + 16 * width)) m (λ k. part prefix (stride * k) l ++ leaf_rest width (group + k) (part width (width * k) (words values)))

-- a message of at most a chunk for each of the four parents of eight digests that stand at a place of a tree, in a buffer of four strides
pub record NodeRoom (prefix src tree messages : ℕ) : Type 0 where
  pub children : src + 256 ≤ tree
  pub chunk : prefix + 80 ≤ stride
  pub strides : 4 * stride ≤ messages

-- in m each stride has the prefix that it has in l, and after it the two digests that stand at src + 64 × k in the tree
abbrev pub NodeRests : ℕ → List ℕ → List ℕ → ℕ → List ℕ → Type 0
NodeRests prefix l tree src m =
    Each (prefix + 80) m (λ k. part prefix (stride * k) l ++ (prefixed (part 32 (src + 64 * k) tree) ++ prefixed (part 32 (src + 64 * k + 32) tree)))

-- four messages of n bytes, at most a chunk, whose first blocks have the chaining value h under a mode, and are followed by something
pub record Common (mode : Mode) (h : List ℕ) (blocks n : ℕ) (l : List ℕ) : Type 0 where
  pub chunk : n ≤ stride
  pub followed : 64 * blocks < n
  pub room : 4 * stride ≤ length l
  pub value : (k : ℕ) → k < 4 → h ≡ first_blocks mode.key mode.flags blocks (part n (stride * k) l)

-- the same, where the first blocks of message k have the chaining value h k
pub record Begun (mode : Mode) (h : ℕ → List ℕ) (blocks n : ℕ) (l : List ℕ) : Type 0 where
  pub chunk : n ≤ stride
  pub followed : 64 * blocks < n
  pub room : 4 * stride ≤ length l
  pub value : (k : ℕ) → k < 4 → h k ≡ first_blocks mode.key mode.flags blocks (part n (stride * k) l)

-- four messages of these lengths have so many whole blocks
pub record FourFirst (blocks a b c d : ℕ) : Type 0 where
  pub first : 64 * blocks ≤ a
  pub second : 64 * blocks ≤ b
  pub third : 64 * blocks ≤ c
  pub fourth : 64 * blocks ≤ d
