-- `hash_compress::rotr` meets its contract.
use Rattle.hash_compress.proofs.Laws.{rotr_law}
use Rattle.std.proofs.Common.{rules}
use Rattle.hash_compress.proofs.rotr.Goals as goal

pub returns : goal.returns
returns c = rotr_law _ _ (search rules) (search rules)
