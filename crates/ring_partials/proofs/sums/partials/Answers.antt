-- `ring_partials::sums::partials` meets its contract: the words so far came into the buckets, and the bits so far out of them.
use mathlib.Core.Path.{◌≡◌, ap, ◌∙◌}
use Prim.Native.Nat.{◌/◌}
use native.Mathlib.Omega.{arith}
use lib.ListN.{length}
use borrow.Author.Rules.{rules}
use Rattle.theory_laws.specs.Sum.{sum}
use Rattle.theory_laws.specs.Table.{at}
use Rattle.theory_laws.proofs.Table.{tab-ext}
use Rattle.theory_field.specs.Words.{words}
use Rattle.theory_multilinear.specs.Partials.{partial}
use Rattle.ring_partials.proofs.Buckets.{gathered_none, partial-more}
use Rattle.theory_field.proofs.Words.{filled_more, filled_all}
use Rattle.ring_partials.proofs.sums.partials.Goals as goal

pub loop-v-init : goal.loop-v-init
unfolding partial sum
loop-v-init c b = gathered_none 1024 b

pub loop-v-preserved : goal.loop-v-preserved
loop-v-preserved c b =
    let a = c.args in
    partial-more (at (words a.ws.now)) (at (words a.es.now)) c.loop-v.v b c.get.ensures c.get-in-loop-v.ensures
    (c.gather.ensures b) (c.loop-v.invariant b)

pub loop-b-init : goal.loop-b-init
loop-b-init c = (search rules, λ k h. absurd (omega arith))

pub loop-b-preserved : goal.loop-b-preserved
loop-b-preserved c = (
  omega (arith, c.put.auto.s),
  filled_more _ _ _ _ _ (omega arith) c.put.ensures c.bucket_sum.ensures c.loop-b.invariant.1,
)

pub returns : goal.returns
returns c =
    let a = c.args in let z : c.loop-v.v ≡ length a.ws.now / 2 = omega arith in
    filled_all _ _ 128 _ (omega arith) (omega arith) c.loop-b.invariant.1
    ∙ tab-ext 128 (λ b h. c.loop-v.invariant b ∙ ap (λ v. partial v (at (words a.ws.now)) (at (words a.es.now)) b) z)
