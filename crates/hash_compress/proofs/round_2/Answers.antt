-- `hash_compress::round_2` meets its contract.
use Rattle.theory_blake3.specs.Compression as C
use Rattle.theory_blake3.specs.Orders as O
use Rattle.theory_laws.specs.Table.{tab}
use Rattle.std.proofs.Common.{rules}
use Rattle.hash_compress.proofs.Laws.{round_law}
use Rattle.hash_compress.proofs.round_2.Goals as goal

pub returns : goal.returns
unfolding O.orders O.powers O.ordered C.permuted C.permutation tab
returns c =
    round_law _ _ c.mix.ensures c.mix-2.ensures c.mix-3.ensures c.mix-4.ensures
    c.mix-5.ensures c.mix-6.ensures c.mix-7.ensures c.mix-8.ensures
