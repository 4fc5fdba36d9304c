-- What the parts of a tree's work leave: the leaves of a run of groups, and the parents of a run of pairs. Rests on trees.
use Rattle.std.specs.Prelude.{ℕ, ◌*◌, ◌/◌, List, length}
use Rattle.theory_laws.specs.Questions.{on_done}
use Rattle.theory_laws.specs.Lists.{part, runs, flat}
use Rattle.theory_field.specs.Words.{words}
use Rattle.theory_blake3.specs.declared.Mode.{Mode}
use Rattle.theory_blake3.specs.Modes.{under}
use Rattle.theory_merkle.specs.Tree.{parents, tree_of}
use Rattle.theory_merkle.specs.PartQuestions.{leaves_number, parents_number}

-- the part of the tree, as it is lent, that begins with the leaf of group `first`; or the buffer as it was
abbrev pub leaves_into : Mode → List ℕ → ℕ → ℕ → ℕ → List ℕ → List ℕ → List ℕ
leaves_into mode domain count width first values out =
    on_done (leaves_number (length domain) count width first (length values) (length out))
    (part (length out) (32 * first) (flat (tree_of (under mode) domain count width (words values)))) out

-- the parents of digests that are lent end to end
abbrev pub parents_of : (List ℕ → List ℕ) → List ℕ → ℕ → List ℕ → List ℕ
parents_of H domain level children = flat (parents H domain level (runs 32 (length children / 32) children))

-- these, or the buffer as it was
abbrev pub parents_into : Mode → List ℕ → ℕ → List ℕ → List ℕ → List ℕ
parents_into mode domain level children out = on_done (parents_number (length domain) (length children) (length out)) (parents_of (under mode) domain level children) out
