-- `compare_pick::pick_at` meets its contract.
use Rattle.compare_pick.proofs.Picked.{picked_same, picked_differ}
use Rattle.compare_pick.proofs.pick_at.Goals as goal

pub returns-then-same_bytes : goal.returns-then-same_bytes
returns-then-same_bytes c = picked_same _ _ _ _ _ _ _ c.same_bytes.ensures c.if-same_bytes.true

pub returns : goal.returns
returns c =
    let p = c.requires in picked_differ _ _ _ _ _ _ _ _ _ c.same_bytes.ensures c.if-same_bytes.false c.put_message.ensures
    c.put_message-2.ensures p.2 p.3
