-- Levels, their trees and their roots, each lent end to end, are what a query record is built from and checked against.
use Prim.Native.Nat.{ℕ, suc, ◌+◌, ◌*◌, ◌^◌, ◌<◌, ◌≤◌}
use mathlib.Core.Path.{◌≡◌, sym, ◌∙◌, ap}
use mathlib.Core.List.{List}
use native.Mathlib.Omega.{arith}
use lib.ListN.{length}
use lib.Pow.{pow_pos}
use Rattle.theory_laws.specs.Xor.{◌⊕◌}
use Rattle.theory_laws.specs.Table.{at}
use Rattle.theory_laws.specs.Lists.{part, flat}
use Rattle.theory_laws.proofs.Lists.{length-flat}
use Rattle.theory_field.specs.Field.{◌⊗◌}
use Rattle.theory_field.specs.Words.{words}
use Rattle.theory_merkle.specs.Digests.{DigestsLong}
use Rattle.theory_record.specs.Trees.{tree_for, root_for, levels_lent, trees_lent, roots_lent}
use Rattle.theory_record.specs.Widths.{level_length, tree_length}
use Rattle.theory_record.specs.Query.{root_at}
use Rattle.theory_record.specs.Build.{level_start, levels_length, tree_start, level_values}
use Rattle.theory_record.proofs.Widths.{PowersOfTwo}
use Rattle.theory_record.proofs.Totals.{total_ext, total-times, total-same, length-end_to_end, part-end_to_end, below-end_to_end}
use Rattle.theory_record.proofs.Offsets.{levels-length, level_values-end_to_end, level_tree-end_to_end}
use Rattle.theory_record.proofs.Runs.{Words}
use Rattle.theory_record.proofs.Accepted.{length-tree_for, tree_for-long, length-root_for, Levels}
use Rattle.theory_record.specs.Scheme.{Scheme}

-- each level has its length, and is words
pub record Sized (n k : ℕ) (levels : ℕ → List ℕ) : Type 0 where
  pub small : n + k ≤ 24
  pub long : (l : ℕ) → l ≤ n → length (levels l) ≡ level_length n k l
  pub all_words : (l : ℕ) → l ≤ n → Words (levels l)

-- each is the fold of the one before, at variable 0, by its challenge
abbrev pub Folded : ℕ → ℕ → (ℕ → List ℕ) → List ℕ → Type 0
Folded n k levels r =
    (l q : ℕ) → l < n → q < level_length n k (suc l)
    → at (levels l) (2 * q) ⊕ at r l ⊗ (at (levels l) (2 * q) ⊕ at (levels l) (2 * q + 1)) ≡ at (levels (suc l)) q

module _ (S : Scheme) (sized : DigestsLong S.digest) (p : PowersOfTwo S.widths) (levels : ℕ → List ℕ) where
  open S use {widths as s, n, k}

  pub length-roots_lent : length (roots_lent S levels) ≡ 32 * (n + 1)
  length-roots_lent =
      length-end_to_end (suc n) (λ l. root_for S l (levels l))
      ∙ total_ext (suc n) (λ l. length (root_for S l (levels l))) (λ l. 32) (λ l g. length-root_for S sized l (levels l) p)
      ∙ total-same 32 (suc n) ∙ omega arith

  module _ (z : Sized n k levels) where
    pub length-levels_lent : length (levels_lent n levels) ≡ levels_length n k
    unfolding level_start
    length-levels_lent =
        length-end_to_end (suc n) levels ∙ total_ext (suc n) (λ l. length (levels l)) (level_length n k) (λ l g. z.long l (omega arith)) ∙ levels-length n k

    pub length-trees_lent : length (trees_lent S levels) ≡ 32 * tree_start s n k (suc n)
    unfolding tree_start
    length-trees_lent =
        let tree : ℕ → List (List ℕ) = λ l. tree_for S l (levels l) in
        length-end_to_end (suc n) (λ l. flat (tree l))
        ∙ total_ext (suc n) (λ l. length (flat (tree l))) (λ l. 32 * tree_length s n k l)
        (λ l g. length-flat 32 (tree l) (tree_for-long S sized l (levels l)) ∙ ap (λ (x : ℕ). 32 * x) (length-tree_for S l (levels l) p))
        ∙ total-times 32 (suc n) (tree_length s n k)

    values-at : (l : ℕ) → l ≤ n → level_values n k (levels_lent n levels) l ≡ levels l
    values-at l h = level_values-end_to_end n k l levels z.long h

    root-at : (l : ℕ) → l ≤ n → root_at (roots_lent S levels) l ≡ root_for S l (levels l)
    unfolding root_at
    root-at l h =
        ap (λ (i : ℕ). part 32 i (roots_lent S levels)) (sym (total-same 32 l))
        ∙ part-end_to_end (suc n) l (λ i. root_for S i (levels i)) (λ i. 32) (λ i g. length-root_for S sized i (levels i) p) (omega arith)

    -- so that built_query_accepted speaks of them
    pub chain_levels : (challenges : List ℕ) → Folded n k levels (words challenges)
        → Levels S (levels_lent n levels) (trees_lent S levels) challenges (roots_lent S levels)
    chain_levels challenges f =
        record {
          lent = record {
            small = z.small;
            words_long = length-levels_lent;
            all_words = below-end_to_end (2 ^ 128) (suc n) levels (pow_pos 128) (λ l g. z.all_words l (omega arith));
            trees_long = length-trees_lent;
          };
          trees = λ l h.
              level_tree-end_to_end s n k l (λ i. tree_for S i (levels i)) (λ i g. length-tree_for S i (levels i) p)
              (λ i g. tree_for-long S sized i (levels i)) h
              ∙ ap (tree_for S l) (sym (values-at l h));
          roots_are = λ l h. root-at l h ∙ ap (root_for S l) (sym (values-at l h));
          folded = λ l q h g. rw (values-at l (omega arith), values-at (suc l) h) (f l q h g);
        }
