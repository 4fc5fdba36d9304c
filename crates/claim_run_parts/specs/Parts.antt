-- What the parts of a whole run leave: the deposit with its levels, trees and roots, of which the last ones stand at the end.
use Rattle.std.specs.Prelude.{ℕ, ◌-◌, ◌*◌, ◌≡◌, List, length, drop}
use Rattle.theory_field.specs.Words.{words}
use Rattle.theory_blake3.specs.Digest.{hash}
use Rattle.theory_code.specs.Gammas.{gammas}
use Rattle.theory_record.specs.declared.Trees.{Trees}
use Rattle.theory_record.specs.Widths.{Widths, level_length, tree_length}
use Rattle.theory_record.specs.Trees.{trees_lent, roots_lent}
use Rattle.theory_record.specs.Build.{level_values}
use Rattle.theory_record.specs.Scheme.{scheme}
use Rattle.theory_claim.specs.Commit.{committed_in_use}
use Rattle.claim_fold_calls.specs.Lent.{lent_calls}
use Rattle.claim_fold_calls.specs.Left.{Left}

-- what committing, the calls and the trees leave, lent the halves `old` for the levels and `oldKept` for the challenges

module _ (how : Trees) (n k : ℕ) (base table calls challenges : List ℕ) where
  pub record Deposited (old oldKept gammas' levels coordinates kept trees roots : List ℕ) (done : ℕ) : Type 0 where
    pub gammas_are : words gammas' ≡ gammas hash base n k
    pub left : Left n k (committed_in_use base n k (words table)) (words old) (words oldKept) (lent_calls calls (words challenges)) done levels coordinates kept
    pub trees_are : trees ≡ trees_lent (scheme how base n k) (level_values n k (words levels))
    pub roots_are : roots ≡ roots_lent (scheme how base n k) (level_values n k (words levels))

-- the last level, its tree and its root: they stand at the end
abbrev pub last_level : ℕ → ℕ → List ℕ → List ℕ
last_level n k levels = drop (length levels - 2 * level_length n k n) levels

abbrev pub last_tree : Widths → ℕ → ℕ → List ℕ → List ℕ
last_tree s n k trees = drop (length trees - 32 * tree_length s n k n) trees

abbrev pub last_root : List ℕ → List ℕ
last_root roots = drop (length roots - 32) roots
