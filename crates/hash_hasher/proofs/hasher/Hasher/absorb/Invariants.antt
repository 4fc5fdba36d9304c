-- `Hasher::absorb` meets its contract: absorbing what is left gives the state with all.
use mathlib.Core.Path.{◌≡◌}
use Prim.Native.Nat.{◌≤◌, ◌-◌}
use lib.ListN.{length, drop}
use Rattle.hash_hasher.specs.Hasher as S
use Rattle.hash_hasher.specs.helpers.Counts.{Counts}
use Rattle.hash_hasher.proofs.hasher.Hasher.absorb.Given as goal

abbrev pub invariant-loop-i : goal.invariant-loop-i
invariant-loop-i l =
    (l.i ≤ length l.input) × (Counts l.self (length l.input - l.i)) × (S.absorbed l.self (drop l.i l.input) ≡ S.absorbed l.initial.self l.input)

abbrev pub decreases-loop-i : goal.decreases-loop-i
decreases-loop-i l = length l.input - l.i
