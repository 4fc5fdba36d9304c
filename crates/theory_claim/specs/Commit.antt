-- Committing a table (SPECIFICATION 6.8): a table is committed once its gammas, codeword and level 0 tree are made. The
-- codeword's list starts with all its coordinates.
-- Gammas go by BLAKE3's hash mode, the tree by the scheme. Rests on the gammas, the code and the levels' trees.
use Rattle.std.specs.Prelude.{ℕ, ◌+◌, ◌*◌, ◌^◌, List, [], ◌∷◌, eqb, leb, length}
use Rattle.theory_laws.specs.Lists.{flat}
use Rattle.theory_laws.specs.Questions.{Question, ◌asks◌, first_no}
use Rattle.theory_field.specs.Words.{words}
use Rattle.theory_multilinear.specs.Codeword.{all_coordinates, encode}
use Rattle.theory_blake3.specs.Digest.{hash}
use Rattle.theory_code.specs.Questions.{sized, lent}
use Rattle.theory_code.specs.Gammas.{gammas}
use Rattle.theory_record.specs.Widths.{Widths, widths_of, tree_length}
use Rattle.theory_record.specs.declared.Trees.{Trees}
use Rattle.theory_record.specs.Trees.{tree_for}
use Rattle.theory_record.specs.Scheme.{Scheme}
use Rattle.theory_claim.specs.Calls.{Codeword}

-- ---- the questions, in the order of SPECIFICATION 8.4. What is lent comes in by its length: words in halves, two to a word, coordinates in
-- numbers, trees in bytes

-- 4; 5 of the table and of room for the gammas, the codeword, its list and level 0's tree; 7: a base domain is at most 200 bytes
abbrev pub commit_questions : Widths → ℕ → ℕ → ℕ → ℕ → ℕ → ℕ → ℕ → ℕ → List Question
commit_questions s n k base table gammas codeword coordinates tree =
    sized n k
    (lent table (2 ^ n) ∷
    lent gammas (k * n) ∷
    lent codeword (2 ^ (n + k)) ∷
    (5 asks eqb coordinates n) ∷
    (5 asks eqb tree (32 * tree_length s n k 0)) ∷
    (7 asks leb base 200) ∷
    [])

unfoldable pub commit_number : Widths → ℕ → ℕ → ℕ → ℕ → ℕ → ℕ → ℕ → ℕ → ℕ
commit_number s n k base table gammas codeword coordinates tree = first_no (commit_questions s n k base table gammas codeword coordinates tree)

-- the number that `commit` answers, of what it is lent
abbrev pub commit_answer : Trees → ℕ → ℕ → List ℕ → List ℕ → List ℕ → List ℕ → List ℕ → List ℕ → ℕ
commit_answer how n k base table gammas codeword coordinates tree =
    commit_number (widths_of how.set) n k (length base) (length table) (length gammas) (length codeword) (length coordinates) (length tree)

-- ---- what is left in the four buffers. The gammas are those of the base domain, `gammas hash base n k`; the list is 0 to n - 1,
-- `allCoordinates n`

-- the codeword of the table, by these gammas
unfoldable pub committed_codeword : List ℕ → ℕ → ℕ → List ℕ → List ℕ
committed_codeword base n k table = encode n k (gammas hash base n k) table

-- of a table as it is lent
abbrev pub codeword_of : List ℕ → ℕ → ℕ → List ℕ → List ℕ
codeword_of base n k table = committed_codeword base n k (words table)

-- the codeword in use: with all its coordinates
abbrev pub committed_in_use : List ℕ → ℕ → ℕ → List ℕ → Codeword
committed_in_use base n k table = record { values = committed_codeword base n k table; coordinates = all_coordinates n }

-- level 0's tree over the codeword, as it is lent
unfoldable pub committed_tree : Scheme → List ℕ → List ℕ
committed_tree S table = flat (tree_for S 0 (committed_codeword S.base S.n S.k table))
