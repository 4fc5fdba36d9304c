-- `field_pack::sums::sum_of` meets its contract: the sum so far is that of the terms so far.
use mathlib.Core.Path.{◌≡◌}
use Prim.Native.Nat.{ℕ, ◌<◌}
use Rattle.theory_laws.specs.Sum.{sum}
use Rattle.field_gf128.specs.declared.Word.{Word}
use Rattle.field_gf128.specs.Word.{word}
use Rattle.field_pack.proofs.sums.sum_of.Given as goal

abbrev pub invariant-loop-i : goal.invariant-loop-i
invariant-loop-i g l =
    (f : ℕ → ℕ) → ((i : ℕ) (w : Word) → i < l.count → goal.F-post g l.term i w → word w ≡ f i) → word l.acc ≡ sum l.i f
