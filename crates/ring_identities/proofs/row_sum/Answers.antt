-- `ring_identities::row_sum` meets its contract: each term is a product of a word and a coefficient.
use mathlib.Core.Path.{◌≡◌, ap, ◌∙◌}
use native.Mathlib.Omega.{arith}
use borrow.Author.Rules.{rules}
use lib.ListN.{get_or}
use Rattle.theory_laws.specs.Table.{at}
use Rattle.theory_field.specs.Field.{◌⊗◌}
use Rattle.theory_field.specs.Words.{words}
use Rattle.field_gf128.specs.Word.{word}
use Rattle.field_pack.specs.Phi.{numbers}
use Rattle.field_pack.proofs.Numbers.{numbers-at}
use Rattle.ring_identities.proofs.row_sum.Goals as goal

pub returns : goal.returns
returns c =
    let s = words c.args.s.now in let cs = c.args.c.now in
    c.sum_of.ensures (λ b. at s b ⊗ at (numbers cs) b)
    (λ b w h p.
    let e : word w ≡ at s b ⊗ word (get_or cs b (record { lo = 0; hi = 0 })) = search rules in
    e ∙ ap (λ x. at s b ⊗ x) (numbers-at cs b _ (omega arith)))
