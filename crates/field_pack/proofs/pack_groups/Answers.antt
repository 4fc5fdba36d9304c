-- `field_pack::pack_groups` meets its contract: the words so far are those of the groups so far.
use mathlib.Core.Path.{refl}
use native.Mathlib.Omega.{arith}
use borrow.Author.Rules.{rules}
use Rattle.field_pack.specs.Pack.{packed}
use Rattle.theory_field.proofs.Words.{filled_more, filled_all}
use Rattle.field_pack.proofs.pack_groups.Goals as goal

pub loop-v-init : goal.loop-v-init
loop-v-init c = (refl, λ k h. absurd (omega arith))

pub loop-v-preserved : goal.loop-v-preserved
loop-v-preserved c =
    (search rules, filled_more _ _ _ _ _ (omega arith) c.put.ensures c.pack_bytes_le.ensures c.loop-v.invariant.1)

pub returns : goal.returns
unfolding packed
returns c = filled_all _ _ _ _ (omega arith) (omega arith) c.loop-v.invariant.1
