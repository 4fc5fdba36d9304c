-- Four messages of one length, one in each lane.
use Rattle.std.specs.Prelude.{ℕ, zero, suc, ◌+◌, ◌*◌, ◌-◌, ◌≤◌, ◌≡◌, List, length}
use Rattle.theory_laws.specs.Table.{at}
use Rattle.theory_blake3.specs.Flags.{start_flag}
use Rattle.theory_blake3.specs.Compression.{cv}
use Rattle.theory_blake3.specs.Chunk.{chunk_from}
use Rattle.hash_four_lanes.specs.helpers.Lane.{Each}

-- the list of lane k
unfoldable pub which : List ℕ → List ℕ → List ℕ → List ℕ → ℕ → List ℕ
which a b c d zero = a
which a b c d (suc zero) = b
which a b c d (suc (suc zero)) = c
which a b c d (suc (suc (suc k))) = d

-- four lists of one length, which is what is left at most of a chunk after so many blocks
pub record Four (blocks : ℕ) (a b c d : List ℕ) : Type 0 where
  pub begun : blocks ≤ 15
  pub fits : length a + 64 * blocks ≤ 1024
  pub second : length b ≡ length a
  pub third : length c ≡ length a
  pub fourth : length d ≡ length a

-- a block of n bytes from a place on lies within four lists of these lengths
pub record Block (from n a b c d : ℕ) : Type 0 where
  pub block : n ≤ 64
  pub first : from + n ≤ a
  pub second : from + n ≤ b
  pub third : from + n ≤ c
  pub fourth : from + n ≤ d

-- lane k of r has the chaining value of the chunk with counter k, of which list k is left after so many blocks, whose chaining value is h k
abbrev pub RestsFrom : (ℕ → List ℕ) → ℕ → ℕ → List ℕ → (ℕ → List ℕ) → ℕ → List ℕ → Type 0
RestsFrom h blocks d counters lists x r = Each 8 r (λ k. cv (chunk_from d (15 - blocks) (h k) (start_flag blocks) (at counters k) (lists k) x))

-- the same, of blocks that all have in common
abbrev pub Rests : List ℕ → ℕ → ℕ → List ℕ → (ℕ → List ℕ) → ℕ → List ℕ → Type 0
Rests h blocks d counters lists x r = RestsFrom (λ _. h) blocks d counters lists x r
