-- What `fold_levels` leaves is what the claim builds its records from (`Lent` and `LastLent` of specs/Claim): the levels of the committed codeword
-- by r, their trees and their roots, for every list of calls whose done ones are n folds at variable 0 by r.
use Prim.Native.Nat.{ℕ, ◌-◌, ◌*◌}
use mathlib.Core.Path.{◌≡◌, sym, ◌∙◌, ap}
use mathlib.Core.List.{List, ◌++◌}
use native.Mathlib.Omega.{arith}
use lib.ListN.{length, drop, length-append, length-drop}
use lib.Seq.{drop_at}
use Rattle.theory_laws.specs.Lists.{flat}
use Rattle.theory_laws.proofs.Lists.{length-flat}
use Rattle.theory_field.specs.Words.{words}
use Rattle.theory_field.proofs.Words.{drop-words, length-words-even}
use Rattle.theory_multilinear.specs.Folds.{at_first}
use Rattle.theory_multilinear.specs.Levels.{level}
use Rattle.theory_blake3.proofs.Modes.{length-under}
use Rattle.theory_record.specs.declared.Trees.{Trees}
use Rattle.theory_record.specs.Widths.{Widths, widths_of, level_length, tree_length}
use Rattle.theory_record.specs.Trees.{end_to_end, tree_for, root_for, levels_lent, trees_lent, roots_lent}
use Rattle.theory_record.specs.Build.{levels_length}
use Rattle.theory_record.specs.Scheme.{Scheme, scheme}
use Rattle.theory_record.proofs.Widths.{powers}
use Rattle.theory_record.proofs.Offsets.{level-within}
use Rattle.theory_record.proofs.Accepted.{length-tree_for, tree_for-long, length-root_for}
use Rattle.theory_claim.specs.Calls.{Call, done_folds}
use Rattle.theory_claim.specs.Claim.{Deposit, committed, level_of, Lent, LastLent}
use Rattle.theory_claim.proofs.Levels.{levels-lent, trees_lent_lem, roots_lent_lem}
use Rattle.theory_claim.proofs.Claim.{claim}

-- the end of a list
drop-last : (m : ℕ) (xs ys zs : List ℕ) → xs ≡ ys ++ zs → length zs ≡ m → drop (length xs - m) xs ≡ zs
drop-last m xs ys zs e l = rw e (drop_at ys zs (length (ys ++ zs) - m) (omega (arith, length-append ys zs)))

module _ (how : Trees) (n k : ℕ) (base table challenges : List ℕ) (d : Deposit n k base table challenges) (calls : List Call)
    (done : done_folds (committed how n k base table challenges) calls ≡ at_first (words challenges)) (levels trees roots : List ℕ) where
  abbrev S : Scheme
  S = scheme how base n k

  abbrev s : Widths
  s = widths_of how.set

  abbrev folded : ℕ → List ℕ
  folded = level (committed how n k base table challenges).values (words challenges)

  pub folded-lent : length levels ≡ 2 * levels_length n k → words levels ≡ levels_lent n (level (committed how n k base table challenges).values (words challenges))
      → trees ≡ trees_lent (scheme how base n k) (level (committed how n k base table challenges).values (words challenges))
      → roots ≡ roots_lent (scheme how base n k) (level (committed how n k base table challenges).values (words challenges))
      → Lent how n k base table challenges calls levels trees roots
  folded-lent long el et er =
      record {
        levels_long = long;
        levels_are = el ∙ sym (levels-lent how n k base table challenges d.challenges_long calls done);
        trees_are = et ∙ sym (trees_lent_lem how n k base table challenges d.challenges_long calls done);
        roots_are = er ∙ sym (roots_lent_lem how n k base table challenges d.challenges_long calls done);
      }

  -- the last level, its tree and its root stand at the end of what is lent
  module _ (z : Lent how n k base table challenges calls levels trees roots) where
    abbrev each : ℕ → List ℕ
    each = level_of how n k base table challenges calls

    abbrev last : List ℕ
    last = drop (length levels - 2 * level_length n k n) levels

    last-is : words last ≡ each n
    unfolding end_to_end
    last-is =
        let m : length (words levels) ≡ levels_length n k = length-words-even levels (levels_length n k) z.levels_long in
        let e : length levels - 2 * level_length n k n ≡ 2 * (length (words levels) - level_length n k n) = omega (arith, z.levels_long, m) in
        ap (λ (i : ℕ). words (drop i levels)) e ∙ drop-words (length (words levels) - level_length n k n) levels
        ∙ drop-last (level_length n k n) (words levels) (end_to_end n each) (each n) z.levels_are
        (((claim how n k base table challenges d).after_calls calls done).level-long n (omega arith))

    tree_is : drop (length trees - 32 * tree_length s n k n) trees ≡ flat (tree_for S n (each n))
    unfolding end_to_end
    tree_is =
        drop-last (32 * tree_length s n k n) trees (end_to_end n (λ l. flat (tree_for S l (each l)))) _ z.trees_are
        (length-flat 32 (tree_for S n (each n)) (tree_for-long S (length-under how.mode) n (each n))
        ∙ ap (λ (x : ℕ). 32 * x) (length-tree_for S n (each n) (powers how.set)))

    root_is : drop (length roots - 32) roots ≡ root_for S n (each n)
    unfolding end_to_end
    root_is = drop-last 32 roots (end_to_end n (λ l. root_for S l (each l))) _ z.roots_are
        (length-root_for S (length-under how.mode) n (each n) (powers how.set))

    pub last-lent : LastLent how n k base table challenges calls (drop (length levels - 2 * level_length n k n) levels)
        (drop (length trees - 32 * tree_length (widths_of how.set) n k n) trees) (drop (length roots - 32) roots)
    last-lent =
        record {
          level-long = length-drop (length levels - 2 * level_length n k n) levels ∙ omega (arith, z.levels_long, level-within n k n (omega arith));
          level-is = last-is;
          tree_is = tree_is;
          root_is = root_is;
        }
