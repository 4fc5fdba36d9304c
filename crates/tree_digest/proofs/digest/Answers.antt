-- `digests::digest` meets its contract.
use Rattle.theory_blake3.specs.Modes.{under}
use Rattle.tree_digest.proofs.digest.Goals as goal

pub returns : goal.returns
unfolding under
returns c = c.digest_of.ensures
