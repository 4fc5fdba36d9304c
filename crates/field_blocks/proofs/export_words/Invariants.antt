-- `field_blocks::export_words` meets its contract. The loop's invariant: storing the turned words that are left gives the final buffer.
use Prim.Native.Nat.{◌*◌}
use mathlib.Core.Path.{◌≡◌}
use mathlib.Core.List.{map}
use lib.ListN.{length}
use Rattle.theory_laws.specs.Lists.{stored}
use Rattle.theory_field.specs.Words.{words}
use Rattle.theory_gcm.specs.helpers.Mirrored.{turned}
use Rattle.field_bytes.specs.Words.{word_bytes}
use Rattle.field_bytes.proofs.Puts.{words_left}
use Rattle.field_blocks.proofs.export_words.Given as goal

abbrev pub invariant-loop-v : goal.invariant-loop-v
invariant-loop-v l =
    (length l.out ≡ length l.initial.out) × (l.at ≡ 16 * l.v)
    × (words_left l.out l.at (map (turned 16) (words l.values)) 0 l.n l.v ≡ stored l.initial.out 0 (word_bytes (map (turned 16) (words l.values)) 0 l.n))
