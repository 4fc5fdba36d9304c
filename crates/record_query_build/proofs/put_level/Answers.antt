-- `record_query_build::put_level` meets its contract.
use Rattle.record_query_build.proofs.Puts.{level_put}
use Rattle.record_query_build.proofs.put_level.Goals as goal

pub returns : goal.returns
returns c = search level_put
