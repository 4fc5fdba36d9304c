-- What question 13 asks of a hasher's state, as facts, which the functions behind it require. Rests on the state.
use Rattle.std.specs.Prelude.{ℕ, ◌+◌, ◌*◌, ◌≤◌, min, ◌≡◌}
use Rattle.std.specs.Int.Count.{ones}
use Rattle.hash_hasher.specs.declared.hasher.Hasher.{Hasher}
use Rattle.hash_hasher.specs.Whole.{most_bytes}

-- the counters agree, and there is room for n bytes
pub record Counts (s : Hasher) (n : ℕ) : Type 0 where
  pub small : s.len + n ≤ most_bytes
  pub low : s.chunk.blocks ≤ 15
  pub within : s.chunk.fill ≤ 64
  pub sum : s.len ≡ 1024 * s.chunk.counter + 64 * s.chunk.blocks + s.chunk.fill
  pub deep : s.stack.depth ≡ ones s.chunk.counter

-- and no block is compressed before a byte follows it
pub record Ready (s : Hasher) (n : ℕ) : Type 0 where
  pub counts : Counts s n
  pub some : min 1 s.len ≤ s.chunk.fill
