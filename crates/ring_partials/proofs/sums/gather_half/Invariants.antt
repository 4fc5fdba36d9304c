-- `ring_partials::sums::gather_half` meets its contract: the nibbles so far came in.
use mathlib.Core.Path.{◌≡◌}
use Prim.Native.Nat.{ℕ}
use Rattle.theory_laws.specs.Xor.{◌⊕◌}
use Rattle.theory_laws.specs.Sum.{sum}
use Rattle.theory_field.specs.Words.{words}
use Rattle.field_gf128.specs.Word.{word}
use Rattle.ring_partials.specs.helpers.Buckets.{gathered}
use Rattle.ring_partials.proofs.Buckets.{share}
use Rattle.ring_partials.proofs.sums.gather_half.Given as goal

abbrev pub invariant-loop-i : goal.invariant-loop-i
invariant-loop-i l =
    ((b : ℕ) → gathered (words l.buckets) b ≡ gathered (words l.initial.buckets) b ⊕ sum l.i (share l.half l.from (word l.e) b))
