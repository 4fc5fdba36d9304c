-- `record_writer::put_digests` meets its contract.
use Rattle.record_writer.proofs.Runs.{digests_put}
use Rattle.record_writer.proofs.put_digests.Goals as goal

pub returns : goal.returns
returns c = search digests_put
