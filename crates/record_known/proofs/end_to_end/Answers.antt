-- `record_known::end_to_end` meets its contract: each digest stands where it was put.
use native.Mathlib.Omega.{arith}
use Rattle.record_known.proofs.Lanes.{four_put}
use Rattle.record_known.proofs.end_to_end.Goals as goal

pub returns : goal.returns
returns c =
    let good = c.well_formed in
    four_put _ _ _ _ _ _ _ _ _ (omega arith) (omega (arith, good)) (omega (arith, good)) (omega (arith, good))
    (omega (arith, good)) c.put.ensures.bytes c.put-2.ensures.bytes
    c.put-3.ensures.bytes c.put-4.ensures.bytes
