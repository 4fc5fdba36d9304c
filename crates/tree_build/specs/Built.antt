-- What building a tree leaves in its buffer.
use Rattle.std.specs.Prelude.{ℕ, List, length}
use Rattle.theory_laws.specs.Questions.{on_done}
use Rattle.theory_laws.specs.Lists.{flat}
use Rattle.theory_field.specs.Words.{words}
use Rattle.theory_blake3.specs.declared.Mode.{Mode}
use Rattle.theory_blake3.specs.Modes.{under}
use Rattle.theory_merkle.specs.Tree.{tree_of}
use Rattle.theory_merkle.specs.Numbers.{build_number}

-- the tree over the lent words, leaves first, or the buffer as it was
abbrev pub built_into : Mode → List ℕ → ℕ → ℕ → List ℕ → List ℕ → List ℕ
built_into mode domain count width values tree =
    on_done (build_number (length domain) count width (length values) (length tree)) (flat (tree_of (under mode) domain count width (words values))) tree
