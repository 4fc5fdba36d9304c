-- `record_known::groups::group_openings` meets its contract: what is read next is in the record.
use Rattle.record_reader.proofs.Places.{group_places}
use Rattle.record_known.proofs.groups.group_openings.Goals as goal

pub loop-g-preserved : goal.loop-g-preserved
loop-g-preserved c = (group_places _ _ _ c.in-Some.ensures).within
