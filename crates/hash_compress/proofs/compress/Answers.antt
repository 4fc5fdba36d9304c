-- `hash_compress::compress` meets its contract.
use Rattle.theory_blake3.specs.Compression as C
use Rattle.std.proofs.Common.{rules}
use Rattle.hash_compress.proofs.compress.Goals as goal

pub returns : goal.returns
unfolding C.compress
returns c = cc
