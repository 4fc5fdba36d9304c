-- The levels that calls leave whose done ones are n folds at variable 0 by r: the committed codeword folded l times, their trees and roots;
-- and that each of these folds is done.
use Prim.Native.Nat.{ℕ, suc, ◌+◌, ◌-◌, ◌*◌, ◌/◌, ◌^◌, ◌<◌, ◌≤◌}
use mathlib.Core.Path.{◌≡◌, sym, ap, ◌∙◌}
use mathlib.Core.List.{List}
use native.Mathlib.Omega.{arith}
use lib.ListN.{length, drop, length-drop}
use Rattle.theory_laws.specs.Lists.{flat}
use Rattle.theory_laws.proofs.Table.{length-tab}
use Rattle.theory_field.specs.Words.{words}
use Rattle.theory_field.proofs.Words.{length-words-even}
use Rattle.theory_multilinear.specs.Folds.{at_first}
use Rattle.theory_multilinear.specs.Levels.{level}
use Rattle.theory_multilinear.specs.Codeword.{all_coordinates}
use Rattle.theory_code.specs.Questions.{fold_number}
use Rattle.theory_code.proofs.Rising.{rising-behind}
use Rattle.theory_record.specs.declared.Trees.{Trees}
use Rattle.theory_record.specs.Widths.{level_length}
use Rattle.theory_record.specs.Trees.{tree_for, root_for, levels_lent, trees_lent, roots_lent}
use Rattle.theory_record.specs.Scheme.{scheme}
use Rattle.theory_record.proofs.Totals.{end_to_end-ext}
use Rattle.theory_claim.specs.Calls.{Call, done_folds}
use Rattle.theory_claim.specs.Claim.{committed, level_of}
use Rattle.theory_claim.proofs.Calls.{half_power, fold-lent, rising-all, after-level}

-- a fold of level l at variable 0 with its list, into room for the next
pub fold_done : (n k l : ℕ) → n ≤ 20 → k ≤ 4 → l < n
    → fold_number (n - l) k n 0 (drop l (all_coordinates n)) (2 * level_length n k l) (2 * level_length n k (suc l)) ≡ 0
unfolding level_length
fold_done n k l n_most k_most h =
    let half : 2 ^ (n + k - suc l) ≡ 2 ^ (n - l + k) / 2 = sym (half_power (n + k - suc l) (n - l + k) (omega arith)) in
    fold-lent (n - l) k n 0 (drop l (all_coordinates n)) _ _
    (record {
      n_most = omega arith;
      k_most = k_most;
      original_most = n_most;
      src_long = ap (λ (x : ℕ). 2 * 2 ^ x) {x = n + k - l} {y = n - l + k} (omega arith);
      out_long = ap (λ (x : ℕ). 2 * x) half;
      list_long = length-drop l (all_coordinates n) ∙ ap (λ (x : ℕ). x - l) (length-tab n (λ i. i));
      list_rises = rising-behind l 0 n (all_coordinates n) (rising-all n);
      below = omega arith;
    })

module _ (how : Trees) (n k : ℕ) (base table challenges : List ℕ) (long : length challenges ≡ 2 * n) (calls : List Call)
    (done : done_folds (committed how n k base table challenges) calls ≡ at_first (words challenges)) where
  abbrev levels : ℕ → List ℕ
  levels = level_of how n k base table challenges calls

  abbrev folded : ℕ → List ℕ
  folded = level (committed how n k base table challenges).values (words challenges)

  -- level l, after l done folds, is the codeword folded l times at variable 0
  pub level-is : (l : ℕ) → l ≤ n → level_of how n k base table challenges calls l ≡ level (committed how n k base table challenges).values (words challenges) l
  level-is l h = after-level calls (committed how n k base table challenges) (words challenges) done l (rw (length-words-even challenges n long) h)

  pub levels-lent : levels_lent n (level_of how n k base table challenges calls)
      ≡ levels_lent n (level (committed how n k base table challenges).values (words challenges))
  levels-lent = end_to_end-ext (suc n) levels folded (λ l h. level-is l (omega arith))

  pub trees_lent_lem : trees_lent (scheme how base n k) (level_of how n k base table challenges calls)
      ≡ trees_lent (scheme how base n k) (level (committed how n k base table challenges).values (words challenges))
  trees_lent_lem = end_to_end-ext (suc n) _ _ (λ l h. ap (λ (x : List ℕ). flat (tree_for (scheme how base n k) l x)) (level-is l (omega arith)))

  pub roots_lent_lem : roots_lent (scheme how base n k) (level_of how n k base table challenges calls)
      ≡ roots_lent (scheme how base n k) (level (committed how n k base table challenges).values (words challenges))
  roots_lent_lem = end_to_end-ext (suc n) _ _ (λ l h. ap (root_for (scheme how base n k) l) (level-is l (omega arith)))
