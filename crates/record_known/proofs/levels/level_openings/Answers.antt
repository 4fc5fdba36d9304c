-- `record_known::levels::level_openings` meets its contract: what is read next is in the record.
use Rattle.record_reader.proofs.Places.{level-places}
use Rattle.record_known.proofs.levels.level_openings.Goals as goal

pub loop-l-preserved : goal.loop-l-preserved
loop-l-preserved c = (level-places _ _ _ c.in-Some.ensures).within
