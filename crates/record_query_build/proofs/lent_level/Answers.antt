-- `record_query_build::lent_level` meets its contract.
use Rattle.record_query_build.proofs.Sizes.{level-is}
use Rattle.record_query_build.proofs.lent_level.Goals as goal

pub returns : goal.returns
returns c = search level-is
