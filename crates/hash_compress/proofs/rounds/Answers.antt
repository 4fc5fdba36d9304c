-- `hash_compress::rounds` meets its contract.
use Rattle.std.proofs.Common.{rules}
use Rattle.hash_compress.proofs.Laws.{rounds_law}
use Rattle.hash_compress.proofs.rounds.Goals as goal

pub returns : goal.returns
returns c =
    rounds_law _ _ c.round_0.ensures c.round_1.ensures c.round_2.ensures
    c.round_3.ensures c.round_4.ensures c.round_5.ensures c.round_6.ensures
