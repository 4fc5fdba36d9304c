-- `chunk::slice::chunk_rest` meets its contract.
use mathlib.Core.Path.{◌≡◌}
use Prim.Native.Nat.{ℕ, ◌+◌, ◌≤◌, ◌-◌, ◌*◌}
use lib.ListN.{length, drop}
use Rattle.theory_blake3.specs.Flags.{start_flag}
use Rattle.theory_blake3.specs.Chunk as B
use Rattle.hash_chunk.proofs.slice.chunk_rest.Given as goal

abbrev pub invariant-loop-from : goal.invariant-loop-from
invariant-loop-from l =
    (64 * l.i ≡ 64 * l.blocks + l.from) × (l.from ≤ length l.input)
    × ((x : ℕ) → B.chunk_from l.flags (15 - l.i) l.h (start_flag l.i) l.t (drop l.from l.input) x ≡ B.chunk_from l.flags (15 - l.blocks) l.initial.h (start_flag l.blocks) l.t l.input x)

abbrev pub decreases-loop-from : goal.decreases-loop-from
decreases-loop-from l = length l.input - l.from
