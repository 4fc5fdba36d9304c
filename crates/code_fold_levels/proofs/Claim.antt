-- What `fold_levels` leaves, lent a committed codeword as level 0, is what the claim builds its records from: after every list of calls whose done ones
-- are n folds at variable 0 by r, and for the last level, its tree and its root at the ends of what it leaves.
use Prim.Native.Nat.{ℕ, ◌-◌, ◌*◌}
use mathlib.Core.Path.{◌≡◌, ◌∙◌, ap}
use mathlib.Core.List.{List}
use lib.ListN.{length, drop}
use Rattle.theory_field.specs.Words.{words}
use Rattle.theory_multilinear.specs.Folds.{at_first}
use Rattle.theory_multilinear.specs.Levels.{level}
use Rattle.theory_record.specs.declared.Trees.{Trees}
use Rattle.theory_record.specs.Widths.{widths_of, level_length, tree_length}
use Rattle.theory_record.specs.Trees.{levels_lent, trees_lent, roots_lent}
use Rattle.theory_record.specs.Build.{levels_length, level_values}
use Rattle.theory_record.specs.Scheme.{scheme}
use Rattle.theory_claim.specs.Calls.{Call, done_folds}
use Rattle.theory_claim.specs.Claim.{Deposit, committed, Lent, LastLent}
use Rattle.theory_claim.proofs.Lent as claim
use Rattle.code_fold_levels.specs.Levels.{folded_level}

module _ (how : Trees) (n k : ℕ) (base table challenges : List ℕ) (d : Deposit n k base table challenges) (calls : List Call)
    (done : done_folds (committed how n k base table challenges) calls ≡ at_first (words challenges)) (old : List ℕ)
    (front : level_values n k (words old) 0 ≡ (committed how n k base table challenges).values) (levels trees roots : List ℕ)
    (long : length levels ≡ 2 * levels_length n k)
    (levels-left : words levels ≡ levels_lent n (folded_level n k challenges old))
    (trees-left : trees ≡ trees_lent (scheme how base n k) (folded_level n k challenges old))
    (roots-left : roots ≡ roots_lent (scheme how base n k) (folded_level n k challenges old)) where
  pub left-lent : Lent how n k base table challenges calls levels trees roots
  left-lent =
      claim.folded-lent how n k base table challenges d calls done levels trees roots long
      (levels-left ∙ ap (λ (c : List ℕ). levels_lent n (level c (words challenges))) front)
      (trees-left ∙ ap (λ (c : List ℕ). trees_lent (scheme how base n k) (level c (words challenges))) front)
      (roots-left ∙ ap (λ (c : List ℕ). roots_lent (scheme how base n k) (level c (words challenges))) front)

  pub last-left-lent : LastLent how n k base table challenges calls (drop (length levels - 2 * level_length n k n) levels)
      (drop (length trees - 32 * tree_length (widths_of how.set) n k n) trees) (drop (length roots - 32) roots)
  last-left-lent = claim.last-lent how n k base table challenges d calls done levels trees roots left-lent
