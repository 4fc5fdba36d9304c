-- What `commit` and `level_tree` answer, and the codeword that `commit` leaves, of the slices that they are lent. Rests on committing.
use Rattle.std.specs.Prelude.{ℕ, List, length}
use Rattle.theory_record.specs.declared.Trees.{Trees}
use Rattle.theory_record.specs.Widths.{widths_of}
use Rattle.theory_record.specs.Lent.{Slice, MutSlice}
use Rattle.theory_claim.specs.Commit.{commit_answer, codeword_of}
use Rattle.code_commit.specs.Level.{level_tree_number}

-- the number of committing: of a base domain and a table, and of room for the gammas, the codeword, its list and level 0's tree
abbrev pub commit_lent : Trees → ℕ → ℕ → Slice → Slice → MutSlice → MutSlice → MutSlice → MutSlice → ℕ
commit_lent how n k base table gammas codeword coordinates tree =
    commit_answer how n k base.entry.now table.entry.now gammas.entry.now codeword.entry.now coordinates.entry.now
    tree.entry.now

-- the codeword of a base domain and a table
abbrev pub codeword_lent : ℕ → ℕ → Slice → Slice → List ℕ
codeword_lent n k base table = codeword_of base.entry.now n k table.entry.now

-- the number of level l's tree: of a base domain and the level's values, and of room for the tree
abbrev pub level_tree_lent : Trees → ℕ → ℕ → ℕ → Slice → Slice → MutSlice → ℕ
level_tree_lent how n k l base values tree =
    level_tree_number (widths_of how.set) n k l (length base.entry.now) (length values.entry.now) (length tree.entry.now)
