-- `ring_indicator::each_word` meets its contract: the words so far are what f makes of what stood there.
use mathlib.Core.Path.{◌≡◌}
use Prim.Native.Nat.{ℕ}
use lib.ListN.{length}
use Rattle.theory_laws.proofs.Updates.{updated}
use Rattle.theory_field.specs.Words.{words}
use Rattle.field_gf128.specs.declared.Word.{Word}
use Rattle.field_gf128.specs.Word.{word}
use Rattle.ring_indicator.proofs.each_word.Given as goal

abbrev pub invariant-loop-v : goal.invariant-loop-v
invariant-loop-v g l =
    (length l.out ≡ length l.initial.out)
    × ((h : ℕ → ℕ) → ((w r : Word) → goal.F-post g l.f w r → word r ≡ h (word w)) → words l.out ≡ updated l.v (λ i. h) (words l.initial.out))
