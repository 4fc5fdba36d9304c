-- `bytes_reader::digest_at` meets its contract: the digest is what a window of 32 bytes holds.
use Rattle.bytes_reader.proofs.Windows.{digest-read}
use Rattle.bytes_reader.proofs.digest_at.Goals as goal

pub returns : goal.returns
returns c = search digest-read
