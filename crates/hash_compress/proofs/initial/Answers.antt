-- `hash_compress::initial` meets its contract.
use Rattle.theory_blake3.specs.Compression as C
use Rattle.theory_laws.specs.Table.{tab}
use Rattle.std.proofs.Common.{rules}
use Rattle.hash_compress.proofs.initial.Goals as goal

pub returns : goal.returns
unfolding C.initial C.iv C.cv tab
returns c = rw c.low-lo.ensures
