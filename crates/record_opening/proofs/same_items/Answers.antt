-- `record_opening::same_items` meets its contract. The loop's invariant: the items so far are the same.
use native.Mathlib.Omega.{arith}
use Rattle.record_opening.proofs.Again.{no_claim, items_begin, items-step, items_end}
use Rattle.record_opening.proofs.same_items.Goals as goal

pub loop-t-init : goal.loop-t-init
loop-t-init c = items_begin _ _ _

pub returns-then-not-same_digest : goal.returns-then-not-same_digest
returns-then-not-same_digest c = λ e. no_claim e

pub loop-t-preserved : goal.loop-t-preserved
loop-t-preserved c =
    items-step _ _ _ _ c.loop-t.invariant _ _ _ c.digest_at-d.ensures c.digest_at-e.ensures c.same_digest.ensures c.if-not-same_digest.false

pub returns : goal.returns
returns c = λ e. items_end _ _ _ _ c.loop-t.invariant _ (omega arith) c.loop-t-test.false
