-- `copy` meets its contract: below i, each half is copied.
use Prim.Native.Nat.{ℕ, ◌<◌}
use mathlib.Core.Path.{◌≡◌}
use lib.ListN.{length}
use Rattle.theory_laws.specs.Table.{at}
use Rattle.field_words.proofs.copy.Given as goal

abbrev pub invariant-loop-i : goal.invariant-loop-i
invariant-loop-i l = (length l.to ≡ length l.initial.to) × ((v : ℕ) → v < l.i → at l.to v ≡ at l.from v)
