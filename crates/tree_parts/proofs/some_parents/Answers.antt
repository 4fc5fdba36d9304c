-- `tree_parts::some_parents` meets its contract.
use native.Mathlib.Omega.{arith}
use Rattle.theory_blake3.proofs.Modes.{length-under}
use Rattle.tree_parts.proofs.SomeParents.{length_some, some_made}
use Rattle.tree_parts.proofs.some_parents.Goals as goal

pub returns : goal.returns
returns c =
    let a = c.args in let made = some_made _ (length-under _) a.hashing.domain.now a.level a.some a.children.now _ _ _ c.requires.pairs (omega (arith, c.requires.few))
    c.put.ensures.bytes c.put_parents.ensures in
    rw (made, length_some _ (length-under _) a.hashing.domain.now a.level a.some a.children.now) at c.put-2.ensures
