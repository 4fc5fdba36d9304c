-- `ring_indicator::powers` meets its contract: the products so far stand there.
use mathlib.Core.Path.{◌≡◌}
use lib.ListN.{length}
use Rattle.theory_field.proofs.Product.{times}
use Rattle.field_gf128.specs.Word.{word}
use Rattle.theory_field.proofs.Words.{Filled}
use Rattle.ring_indicator.proofs.powers.Given as goal

abbrev pub invariant-loop-j : goal.invariant-loop-j
invariant-loop-j l =
    (length l.out ≡ 256) × (word l.p ≡ times l.j (word l.initial.p)) × Filled (λ i. times i (word l.initial.p)) l.j l.out
