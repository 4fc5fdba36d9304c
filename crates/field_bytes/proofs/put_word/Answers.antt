-- `put_word` meets its contract: its halves, one after the other.
use Rattle.field_bytes.proofs.Puts.{word_put}
use borrow.Author.Rules.{rules}
use Rattle.field_bytes.proofs.put_word.Goals as goal

pub returns : goal.returns
returns c =
    word_put _ _ _ _ _ _ c.args.w c.put_number-at.ensures c.put_number.ensures (search rules)
