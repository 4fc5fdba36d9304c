-- `hash_compress::mix` meets its contract.
use Rattle.hash_compress.proofs.Laws.{mix_law}
use Rattle.std.proofs.Common.{rules}
use Rattle.hash_compress.proofs.mix.Goals as goal

pub returns : goal.returns
returns c = mix_law _ _ _ _ _ _ _ c.half.ensures c.half-2.ensures
