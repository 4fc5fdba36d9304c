-- `hash_four_chunks::spread`: place by place.
use mathlib.Core.Path.{◌≡◌}
use Prim.Native.Nat.{ℕ, ◌<◌, ◌/◌}
use lib.ListN.{length}
use Rattle.theory_laws.specs.Table.{at}
use Rattle.hash_four_chunks.proofs.spread.Given as goal

abbrev pub invariant-loop-j : goal.invariant-loop-j
invariant-loop-j l = (length l.s ≡ 32) × ((i : ℕ) → i < l.j → at l.s i ≡ at l.h (i / 4))
