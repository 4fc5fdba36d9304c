-- `words_at` meets its contract: the first v words are read.
use Prim.Native.Nat.{◌+◌, ◌*◌}
use mathlib.Core.Path.{◌≡◌}
use lib.ListN.{length}
use Rattle.theory_laws.specs.Lists.{part, le_value}
use Rattle.theory_field.proofs.Words.{Filled}
use Rattle.field_bytes.proofs.words_at.Given as goal

abbrev pub invariant-loop-v : goal.invariant-loop-v
invariant-loop-v l = (length l.out ≡ 2 * l.n) × Filled (λ w. le_value (part 16 (l.from + 16 * w) l.s)) l.v l.out
