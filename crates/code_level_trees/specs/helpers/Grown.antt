-- How far the trees and roots of levels are made: those below l, end to end from the front of their buffers.
use Rattle.std.specs.Prelude.{ℕ, suc, ◌+◌, ◌*◌, ◌≤◌, ◌≡◌, List, length, take}
use Rattle.theory_laws.specs.Lists.{flat}
use Rattle.theory_record.specs.declared.Trees.{Trees}
use Rattle.theory_record.specs.Widths.{widths_of}
use Rattle.theory_record.specs.Trees.{end_to_end, tree_for, root_for}
use Rattle.theory_record.specs.Build.{level_start, tree_start}
use Rattle.theory_record.specs.Scheme.{scheme}

-- level l starts at the half `from`, its tree at the byte `at`, its root at `place`
pub record Grown (how : Trees) (base : List ℕ) (n k : ℕ) (values : ℕ → List ℕ) (l from at place : ℕ) (trees roots : List ℕ) : Type 0 where
  pub least : 1 ≤ l
  pub most : l ≤ n + 1
  pub from= : from ≡ 2 * level_start n k l
  pub at= : at ≡ 32 * tree_start (widths_of how.set) n k l
  pub place= : place ≡ 32 * l
  pub trees_long : length trees ≡ 32 * tree_start (widths_of how.set) n k (suc n)
  pub roots_long : length roots ≡ 32 * (n + 1)
  pub trees_are : take at trees ≡ end_to_end l (λ i. flat (tree_for (scheme how base n k) i (values i)))
  pub roots_are : take place roots ≡ end_to_end l (λ i. root_for (scheme how base n k) i (values i))
