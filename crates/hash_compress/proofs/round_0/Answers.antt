-- `hash_compress::round_0` meets its contract.
use Rattle.std.proofs.Common.{rules}
use Rattle.hash_compress.proofs.Laws.{round_law}
use Rattle.hash_compress.proofs.round_0.Goals as goal

pub returns : goal.returns
returns c =
    round_law _ _ c.mix.ensures c.mix-2.ensures c.mix-3.ensures c.mix-4.ensures
    c.mix-5.ensures c.mix-6.ensures c.mix-7.ensures c.mix-8.ensures
