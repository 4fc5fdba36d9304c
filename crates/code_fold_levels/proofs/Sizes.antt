-- What the questions of `fold_levels`, all answered yes, say of sizes and lengths; with them each step of the work has its room.
use Prim.Native.Nat.{ℕ, suc, ◌+◌, ◌*◌, ◌≤◌}
use mathlib.Core.Path.{◌≡◌, sym, ◌∙◌}
use mathlib.Core.List.{◌++◌}
use native.Mathlib.Omega.{arith}
use borrow.Author.Tests.{leb-true, eqb-true}
use lib.Dec.{leb}
use Rattle.theory_laws.specs.Questions.{pick}
use Rattle.theory_laws.proofs.Questions.{all_yes, yes_eq, yes_eq-given}
use Rattle.theory_record.specs.Widths.{Widths, level_length}
use Rattle.theory_record.specs.Query.{size_questions}
use Rattle.theory_record.specs.Build.{levels_length, tree_start}
use Rattle.theory_record.proofs.Ranges.{SizesFit, sizes_fit, sizes-small}
use Rattle.theory_record.proofs.Offsets.{level-halves, first-length}
use Rattle.code_level.specs.Sizes.{size_number}
use Rattle.code_level.proofs.Sizes.{yes_sizes, yes_halves}
use Rattle.code_levels.specs.helpers.Levels as fold
use Rattle.code_level_trees.specs.helpers.Room as tree
use Rattle.code_fold_levels.specs.Levels.{lent_questions, fold_levels_number}

-- every length has its yes, and 7 is left
pub lengths_yes : (s : Widths) (n k base challenges levels half trees roots : ℕ) {len first all r : ℕ} → 0 ≡ size_number n k → challenges ≡ 2 * n
    → len ≡ levels_length n k → levels ≡ 2 * len → first ≡ level_length n k 1 → half ≡ 2 * first → all ≡ 32 * tree_start s n k (suc n) → trees ≡ all
    → roots ≡ 32 * (n + 1) → r ≡ pick (leb base 200) 0 7 → r ≡ fold_levels_number s n k base challenges levels half trees roots
unfolding fold_levels_number
lengths_yes s n k base challenges levels half trees roots {r = r} ex ec el hl ef hf ea ht hr e =
    yes_sizes n k _ r ex
    (yes_eq r _ _ _ _ ec (yes_halves r _ _ _ _ _ el hl (yes_halves r _ _ _ _ _ ef hf (yes_eq-given r _ _ _ _ _ ea ht (yes_eq r _ _ _ _ hr e)))))

pub record Sizes (s : Widths) (n k base challenges levels half trees roots : ℕ) : Type 0 where
  pub sizes : SizesFit n k
  pub challenges_long : challenges ≡ 2 * n
  pub levels_long : levels ≡ 2 * levels_length n k
  pub half_long : half ≡ 2 * level_length n k 1
  pub trees_long : trees ≡ 32 * tree_start s n k (suc n)
  pub roots_long : roots ≡ 32 * (n + 1)
  pub base_short : base ≤ 200

module _ {s : Widths} {n k base challenges levels half trees roots : ℕ} where
  pub sizes-given : {number : ℕ} → number ≡ fold_levels_number s n k base challenges levels half trees roots → number ≡ 0
      → Sizes s n k base challenges levels half trees roots
  unfolding fold_levels_number
  sizes-given e z =
      let y = sizes_fit n k (all_yes (size_questions n k ++ lent_questions s n k base challenges levels half trees roots) tt (sym e ∙ z)) in
      let q = y.1 in
      record {
        sizes = y.0;
        challenges_long = eqb-true _ _ q.0;
        levels_long = eqb-true _ _ q.1.0;
        half_long = eqb-true _ _ q.1.1.0;
        trees_long = eqb-true _ _ q.1.1.1.0;
        roots_long = eqb-true _ _ q.1.1.1.1.0;
        base_short = leb-true base 200 q.1.1.1.1.1.0;
      }

  module _ (h : Sizes s n k base challenges levels half trees roots) where
    pub fold-room : fold.Room n k levels half
    fold-room =
        record {
          n_most = h.sizes.n_most;
          k_most = h.sizes.k_most;
          levels_long = h.levels_long;
          half_long = h.half_long ∙ sym (level-halves n k 0 (omega (arith, h.sizes.n_least))) ∙ first-length n k;
        }

    pub tree-room : (levels' : ℕ) → levels' ≡ levels → tree.Room s n k base levels' trees
    tree-room levels' e =
        record { small = sizes-small n k h.sizes; base_le = h.base_short; levels_long = e ∙ h.levels_long; trees_long = h.trees_long }
