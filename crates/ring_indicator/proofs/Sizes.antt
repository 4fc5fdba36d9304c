-- What the questions leave known where none says no.
use mathlib.Core.Path.{◌≡◌, sym, ◌∙◌}
use Prim.Native.Nat.{ℕ, ◌*◌}
use borrow.Author.Tests.{eqb-true}
use Rattle.theory_laws.proofs.Questions.{all_yes}
use Rattle.ring_indicator.specs.Numbers.{eval_questions, eval_number}

pub all-evaluated : (n z point q : ℕ) → q ≡ eval_number n z point → q ≡ 0 → (z ≡ 2 * n) × (point ≡ 2 * n)
unfolding eval_number
all-evaluated n z point q f e =
    let y = all_yes (eval_questions n z point) tt (sym f ∙ e) in
    (eqb-true z (2 * n) y.1.0, eqb-true point (2 * n) y.1.1.0)
