-- What the entries on digests answer: the digest, or the number of the first question whose answer is no and zeros.
use Rattle.std.specs.Prelude.{ℕ, List, length}
use Rattle.theory_field.specs.Words.{words}
use Rattle.theory_blake3.specs.declared.Mode.{Mode}
use Rattle.theory_blake3.specs.Modes.{under}
use Rattle.theory_merkle.specs.Tree.{leaf_of, node_digest}
use Rattle.theory_merkle.specs.Numbers.{leaf_number, node_number}
use Rattle.hash_hasher.specs.Whole.{Digested, answered}

-- the leaf digest of the group of a place, of the group's lent words
abbrev pub leaf_answer : Mode → List ℕ → ℕ → ℕ → ℕ → List ℕ → Digested
leaf_answer mode domain count width place values =
    answered (leaf_number (length domain) count width place (length values)) (leaf_of (under mode) domain count width place (words values))

-- the node digest of two lent digests
abbrev pub node_answer : Mode → List ℕ → ℕ → List ℕ → List ℕ → Digested
node_answer mode domain level left right = answered (node_number (length domain) (length left) (length right)) (node_digest (under mode) domain level left right)
