-- `put_words` meets its contract. The loop's invariant: storing the words that are left gives the final buffer.
use Rattle.field_bytes.proofs.Puts.{words_left}
use Prim.Native.Nat.{◌+◌, ◌*◌}
use mathlib.Core.Path.{◌≡◌}
use Rattle.theory_laws.specs.Lists.{stored}
use Rattle.theory_field.specs.Words.{words}
use Rattle.field_bytes.specs.Words.{word_bytes}
use Rattle.field_bytes.proofs.put_words.Given as goal

abbrev pub invariant-loop-i : goal.invariant-loop-i
invariant-loop-i l =
    (l.at ≡ l.from + 16 * l.i)
    × (words_left l.out l.at (words l.values) l.start l.count l.i ≡ stored l.initial.out l.from (word_bytes (words l.values) l.start l.count))
