-- `field_pack::phi_tab` meets its contract: the entries so far are phi of what they stand for.
use native.Mathlib.Omega.{arith}
use Rattle.field_pack.specs.Phi.{phi_tab}
use borrow.Author.Rules.{rules}
use Rattle.theory_field.proofs.Words.{filled_more, filled_all}
use Rattle.field_pack.proofs.phi_tab.Goals as goal

pub loop-k-init : goal.loop-k-init
loop-k-init c = (search rules, search rules, λ k h. absurd (omega arith))

pub loop-k-preserved : goal.loop-k-preserved
loop-k-preserved c = (
  search rules,
  search rules,
  filled_more _ _ _ _ _ (omega arith) c.put.ensures c.table_word.ensures c.loop-k.invariant.2,
)

pub returns : goal.returns
unfolding phi_tab
returns c = filled_all _ _ _ _ (omega arith) (omega arith) c.loop-k.invariant.2
