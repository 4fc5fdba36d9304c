-- What the entries on paths answer: the path of a place in its buffer, and the root that a group and a path lead to.
use Rattle.std.specs.Prelude.{ℕ, List, length}
use Rattle.theory_laws.specs.Questions.{on_done}
use Rattle.theory_laws.specs.Lists.{runs, flat}
use Rattle.theory_field.specs.Words.{words}
use Rattle.theory_blake3.specs.declared.Mode.{Mode}
use Rattle.theory_blake3.specs.Modes.{under}
use Rattle.theory_merkle.specs.Tree.{depth_of, tree_size, path_of, root_of_path}
use Rattle.theory_merkle.specs.Numbers.{open_number, root_number}
use Rattle.hash_hasher.specs.Whole.{Digested, answered}

-- the path's buffer afterwards: the path of the group of a place, read off the lent tree, or as it was
abbrev pub opened_into : ℕ → ℕ → ℕ → List ℕ → List ℕ → List ℕ
opened_into count width place tree path =
    on_done (open_number count width place (length tree) (length path)) (flat (path_of count width place (runs 32 (tree_size count width) tree))) path

-- the root that the lent words of the group of a place and a lent path lead to, or a number and zeros
abbrev pub root_answer : Mode → List ℕ → ℕ → ℕ → ℕ → List ℕ → List ℕ → Digested
root_answer mode domain count width place values path =
    answered (root_number (length domain) count width place (length values) (length path))
    (root_of_path (under mode) domain count width place (words values) (runs 32 (depth_of count width) path))
