-- Room in a chunk, which the functions that feed its state require. Rests on the state.
use Rattle.std.specs.Prelude.{ℕ, ◌+◌, ◌*◌, ◌≤◌}
use Rattle.hash_chunk.specs.declared.state.ChunkState.{ChunkState}

-- there is room in the chunk for n bytes more
pub record Fits (s : ChunkState) (n : ℕ) : Type 0 where
  pub within : s.fill ≤ 64
  pub small : 64 * s.blocks + s.fill + n ≤ 1024
