-- `hash_compress::output` meets its contract.
use Rattle.theory_blake3.specs.Compression as C
use Rattle.theory_laws.specs.Xor.{◌⊕◌}
use Rattle.theory_laws.specs.Table.{tab}
use Rattle.std.proofs.Common.{refl, rules}
use Rattle.hash_compress.proofs.output.Goals as goal

pub returns : goal.returns
unfolding C.output ◌⊕◌ tab
returns c = refl
