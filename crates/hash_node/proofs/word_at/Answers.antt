-- `word_at` meets its contract: the library reads the word.
use Rattle.hash_node.proofs.Laws.{word_read}
use Rattle.hash_node.proofs.word_at.Goals as goal

pub returns : goal.returns
returns c =
    let a = c.args in
    word_read a.s.now a.from c.requires (λ k. (c.type_inv.s k).fits) (rw c.unwrap.ensures at c.try_into.ensures.1).same c.from_le_bytes.type_inv
    c.from_le_bytes.ensures
