-- `put_message` meets its contract: the message, and zeros after it.
use Rattle.compare_pick.proofs.Buffers.{message_put}
use Rattle.compare_pick.proofs.put_message.Goals as goal

pub returns : goal.returns
returns c =
    message_put _ _ _ _ _ c.requires.0 c.requires.1 c.put-end.ensures c.clear.ensures
