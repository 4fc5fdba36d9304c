-- `hash_node::last_words` meets its contract.
use mathlib.Core.Path.{◌≡◌}
use native.Mathlib.Omega.{arith}
use lib.ListN.{length}
use Rattle.theory_laws.specs.Lists.{part}
use Rattle.theory_laws.proofs.Lists.{length_part}
use Rattle.hash_node.proofs.Laws.{padded-words}
use Rattle.hash_node.proofs.last_words.Goals as goal

-- src/lib.rt:74:1
pub returns : goal.returns
returns c =
    let a = c.args in let l : length (part a.n a.from a.s.now) ≡ a.n = length_part a.n a.from a.s.now (omega arith) in
    padded-words (part a.n a.from a.s.now) (omega arith) c.words_at.ensures c.filled.ensures
