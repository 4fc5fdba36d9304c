-- `hash_compress::orders` meets its contract.
use Rattle.theory_blake3.specs.Compression as C
use Rattle.theory_blake3.specs.Orders as O
use Rattle.theory_laws.specs.Table.{tab}
use Rattle.std.proofs.Common.{refl}
use Rattle.hash_compress.proofs.orders.Goals as goal

pub returns : goal.returns
unfolding O.orders O.powers C.permuted C.permutation tab
returns c = refl
