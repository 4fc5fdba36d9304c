-- `Hasher::new_with` meets its contract.
use Rattle.hash_hasher.proofs.Absorb.{new_law}
use Rattle.hash_hasher.proofs.hasher.Hasher.new_with.Goals as goal

pub returns : goal.returns
returns c = new_law c.args.mode.key c.args.mode.flags c.start.ensures c.new.ensures.values c.new.ensures.depth
