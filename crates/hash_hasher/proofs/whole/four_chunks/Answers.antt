-- `hash_hasher::whole::four_chunks`: four parts that stand one after the other.
use Rattle.hash_hasher.proofs.OneCall.{four-values}
use Rattle.hash_hasher.proofs.whole.four_chunks.Goals as goal

pub returns : goal.returns
returns c =
    let a = c.args in four-values a.mode.key a.mode.flags a.t a.from a.input.now c.chunks.result c.chunks.ensures
