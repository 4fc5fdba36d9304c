-- `code_codeword::coordinates::all_coordinates` meets its contract: the first i entries are stored.
use Prim.Native.Nat.{ℕ, ◌<◌}
use mathlib.Core.Path.{◌≡◌}
use lib.ListN.{length}
use Rattle.theory_laws.specs.Table.{at}
use Rattle.code_codeword.proofs.coordinates.all_coordinates.Given as goal

abbrev pub invariant-loop-i : goal.invariant-loop-i
invariant-loop-i l = (length l.list ≡ length l.initial.list) × ((v : ℕ) → v < l.i → at l.list v ≡ v)
