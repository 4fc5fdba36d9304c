-- `ring_partials::sums::fold` meets its contract: the sum so far is that of the words from j on, by Horner's rule.
use mathlib.Core.Path.{◌≡◌}
use Prim.Native.Nat.{ℕ, ◌+◌, ◌-◌, ◌^◌}
use Rattle.theory_laws.specs.Sum.{sum}
use Rattle.theory_laws.specs.Table.{at}
use Rattle.theory_field.specs.Field.{◌⊗◌}
use Rattle.theory_field.specs.Words.{words}
use Rattle.field_gf128.specs.Word.{word}
use Rattle.theory_multilinear.specs.Phi.{phi}
use Rattle.field_pack.specs.Phi.{phi_tab}
use Rattle.ring_partials.proofs.sums.fold.Given as goal

abbrev pub invariant-loop-j : goal.invariant-loop-j
invariant-loop-j l = (rb : ℕ → ℕ) → words l.t ≡ phi_tab rb → word l.acc ≡ sum (128 - l.j) (λ i. 2 ^ i ⊗ phi rb (at (words l.s) (l.j + i)))
