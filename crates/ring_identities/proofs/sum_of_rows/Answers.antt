-- `ring_identities::sum_of_rows` meets its contract: each term is a product of phi by tables and an entry.
use borrow.Author.Rules.{rules}
use Rattle.theory_laws.specs.Table.{at}
use Rattle.theory_field.specs.Field.{◌⊗◌}
use Rattle.theory_field.specs.Words.{words}
use Rattle.theory_multilinear.specs.Phi.{phi}
use Rattle.field_pack.specs.Phi.{coefficients}
use Rattle.ring_identities.proofs.sum_of_rows.Goals as goal

pub returns : goal.returns
returns c =
    let f = coefficients c.args.c in
    c.sum_of.ensures (λ v. phi f (at (words c.args.ws.now) v) ⊗ at (words c.args.es.now) v)
    (λ v w h p. let e = c.phi_tab-t.ensures in search rules)
