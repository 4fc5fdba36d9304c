-- `hash_compress::half` meets its contract.
use Rattle.hash_compress.proofs.Laws.{half_law}
use Rattle.std.proofs.Common.{rules}
use Rattle.hash_compress.proofs.half.Goals as goal

pub returns : goal.returns
returns c =
    half_law _ _ _ _ _ _ _ _ c.add.ensures c.add-2.ensures c.rotr.ensures
    c.add-3.ensures c.rotr-2.ensures
