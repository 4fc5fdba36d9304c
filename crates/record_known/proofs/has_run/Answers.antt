-- `record_known::has_run` meets its contract.
use borrow.Author.Tests.{eqb-true}
use Rattle.record_opening.proofs.Again.{no_claim}
use Rattle.record_known.proofs.Lanes.{run-sized}
use Rattle.record_known.proofs.has_run.Goals as goal

pub returns-then-at-gt-FARTHEST : goal.returns-then-at-gt-FARTHEST
returns-then-at-gt-FARTHEST c = λ e. no_claim e

pub returns-then-s-at : goal.returns-then-s-at
returns-then-s-at c = λ e. no_claim e

pub returns-in_default : goal.returns-in_default
returns-in_default c = λ e. no_claim e

pub returns : goal.returns
returns c = λ e. run-sized _ _ _ _ _ c.if-at-gt-FARTHEST.false c.in-Some.ensures (eqb-true _ _ e)
