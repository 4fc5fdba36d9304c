-- `hash_compress::iv` meets its contract.
use Rattle.theory_blake3.specs.Compression as C
use Rattle.std.proofs.Common.{refl}
use Rattle.hash_compress.proofs.iv.Goals as goal

pub returns : goal.returns
unfolding C.iv
returns c = refl
