-- `field_blocks::import_words` meets its contract. The loop's invariant: the first v words are taken in.
use Prim.Native.Nat.{◌*◌}
use mathlib.Core.Path.{◌≡◌}
use lib.ListN.{length}
use Rattle.theory_laws.specs.Lists.{part}
use Rattle.theory_field.proofs.Words.{Filled}
use Rattle.theory_gcm.specs.Blocks.{imported}
use Rattle.field_blocks.proofs.import_words.Given as goal

abbrev pub invariant-loop-v : goal.invariant-loop-v
invariant-loop-v l = (length l.out ≡ 2 * l.n) × Filled (λ k. imported (part 16 (16 * k) l.blocks)) l.v l.out
