-- `ChunkState::feed` meets its contract.
use mathlib.Core.Path.{◌≡◌}
use Prim.Native.Nat.{◌≤◌, ◌-◌, ◌+◌, ◌*◌}
use lib.ListN.{length, drop}
use Rattle.hash_chunk.specs.State as S
use Rattle.hash_chunk.proofs.state.ChunkState.feed.Given as goal

abbrev pub invariant-loop-i : goal.invariant-loop-i
invariant-loop-i l =
    (l.i ≤ length l.input) × (l.s.fill ≤ 64) × (64 * l.s.blocks + l.s.fill + (length l.input - l.i) ≤ 1024) × (S.fed l.s (drop l.i l.input) ≡ S.fed l.initial.s l.input)

abbrev pub decreases-loop-i : goal.decreases-loop-i
decreases-loop-i l = length l.input - l.i
