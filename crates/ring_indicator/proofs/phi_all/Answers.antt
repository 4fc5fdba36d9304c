-- `ring_indicator::phi_all` meets its contract, one by one and by the tables of the coefficients.
use borrow.Author.Rules.{rules}
use Rattle.theory_multilinear.specs.Phi.{phi}
use Rattle.field_pack.specs.Phi.{coefficients}
use Rattle.ring_indicator.proofs.phi_all.Goals as goal

pub returns-then-out-lt-MANY : goal.returns-then-out-lt-MANY
returns-then-out-lt-MANY c = c.each_word.ensures (phi (coefficients c.args.rb.now)) (λ w r p. search rules)

pub returns-else-out-lt-MANY : goal.returns-else-out-lt-MANY
returns-else-out-lt-MANY c =
    let f = coefficients c.args.rb.now in
    c.each_word-else-out-lt-MANY.ensures (phi f) (λ w r p. let e = c.phi_tab-t.ensures in search rules)
