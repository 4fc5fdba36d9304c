-- `tree_four_messages::put_digests` meets its contract.
use Prim.Native.Nat.{◌*◌}
use Rattle.theory_laws.specs.Lists.{part}
use Rattle.theory_blake3.specs.Modes.{under}
use Rattle.theory_blake3.proofs.Modes.{length-under}
use Rattle.tree_four_messages.proofs.Digests.{fourth-fits, four_put}
use Rattle.tree_four_messages.proofs.put_digests.Goals as goal

pub put-requires : goal.put-requires
put-requires c =
    fourth-fits _ c.requires.1 c.lane_bytes.ensures c.lane_bytes-2.ensures
    c.lane_bytes-3.ensures c.lane_bytes-4.ensures
    c.put-a.ensures c.put-b.ensures c.put-c.ensures

pub returns : goal.returns
returns c =
    four_put (λ k. under c.args.mode (part c.args.n (1024 * k) c.args.messages.now)) _ (λ k. length-under _ _)
    c.digests_of-v.ensures
    c.lane_bytes.ensures c.lane_bytes-2.ensures c.lane_bytes-3.ensures
    c.lane_bytes-4.ensures
    c.put-a.ensures c.put-b.ensures c.put-c.ensures c.put.ensures
