-- `messages::put_halves` meets its contract. The loop's invariant: storing the halves that are left gives the final buffer.
use Prim.Native.Nat.{◌+◌, ◌*◌}
use mathlib.Core.Path.{◌≡◌}
use mathlib.Core.List.{map}
use lib.ListN.{length, drop}
use Rattle.theory_laws.specs.Lists.{stored, flat, le_bytes}
use Rattle.tree_message.proofs.put_halves.Given as goal

abbrev pub invariant-loop-x : goal.invariant-loop-x
invariant-loop-x l =
    (l.at ≡ l.from + 8 * l.x-index) × (length l.out ≡ length l.initial.out)
    × (stored l.out l.at (flat (map (le_bytes 8) (drop l.x-index l.values))) ≡ stored l.initial.out l.from (flat (map (le_bytes 8) l.values)))
