-- What the questions to `partial_evals` leave known where none says no.
use mathlib.Core.Path.{◌≡◌, sym, ◌∙◌}
use Prim.Native.Nat.{ℕ, ◌*◌, ◌^◌}
use borrow.Author.Tests.{eqb-true}
use Rattle.theory_laws.proofs.Questions.{all_yes}
use Rattle.ring_partials.specs.Numbers.{partial_questions, partial_number}

pub all-lent : (n packed eq out q : ℕ) → q ≡ partial_number n packed eq out → q ≡ 0 → (packed ≡ 2 * 2 ^ n) × (eq ≡ 2 * 2 ^ n) × (out ≡ 256)
unfolding partial_number
all-lent n packed eq out q f z =
    let y = all_yes (partial_questions n packed eq out) tt (sym f ∙ z) in
    (eqb-true packed (2 * 2 ^ n) y.1.0, eqb-true eq (2 * 2 ^ n) y.1.1.0, eqb-true out 256 y.1.1.1.0)
