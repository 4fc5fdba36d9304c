-- The levels folded one after the other: one more, all of them, and their trees and roots.
use Prim.Native.Nat.{ℕ, suc, ◌+◌, ◌-◌, ◌*◌, ◌^◌, ◌<◌, ◌≤◌}
use mathlib.Core.Path.{◌≡◌, refl, sym, ◌∙◌, ap}
use mathlib.Core.Logic.{⊎_elim}
use mathlib.Core.List.{List, ◌++◌}
use native.Mathlib.Nat.{eq-or-lt_of_le}
use native.Mathlib.Numerals.{add-one}
use native.Mathlib.Omega.{arith}
use lib.ListN.{length, take, drop}
use lib.Seq.{take_at}
use Rattle.theory_laws.specs.Lists.{flat}
use Rattle.theory_laws.specs.Table.{at}
use Rattle.theory_field.specs.Words.{words}
use Rattle.theory_field.proofs.Words.{length-words-even}
use Rattle.theory_multilinear.specs.Fold.{fold_list}
use Rattle.theory_multilinear.specs.Levels.{level}
use Rattle.theory_multilinear.proofs.Levels.{length-level}
use Rattle.theory_record.specs.Widths.{level_length, total}
use Rattle.theory_record.specs.Trees.{tree_for, root_for, levels_lent, trees_lent, roots_lent}
use Rattle.theory_record.specs.Build.{level_start, levels_length, level_values}
use Rattle.theory_record.specs.Scheme.{Scheme}
use Rattle.theory_record.proofs.Totals.{end_to_end-ext}
use Rattle.theory_record.proofs.Offsets.{level-halves, length-level_values, level_values-end_to_end, values_of_part}
use Rattle.field_runs.specs.Runs.{Paired}
use Rattle.code_codeword.proofs.Lengths.{has_bit}
use Rattle.code_levels.specs.helpers.Levels.{laid, level_folded}
use Rattle.code_levels.proofs.Laying.{laid-before, laid-there, length-fold, levels-laid}
use Rattle.code_fold_levels.specs.Levels.{folded_level}
use Rattle.code_fold_levels.specs.helpers.Folded.{Folded}

-- ---- one more level

-- a level before the last has pairs
pub level_paired : (n k l : ℕ) {size halves : ℕ} → l < n → size ≡ level_length n k l → halves ≡ 2 * size → Paired 0 halves
unfolding level_length
level_paired n k l {halves = halves} h es e = has_bit (n + k - l) 0 halves (omega arith) (e ∙ ap (λ (x : ℕ). 2 * x) es)

-- its fold, in the front of a buffer
pub front-folded : (n k l by : ℕ) {from size : ℕ} (levels ys zs : List ℕ) → from ≡ 2 * level_start n k l → size ≡ level_length n k l → length ys ≡ size
    → words ys ≡ fold_list 0 by (words (take (from + 2 * size - from) (drop from levels)))
    → words (take (level_length n k l) (ys ++ zs)) ≡ level_folded n k l 0 by levels
front-folded n k l by {size = size} levels ys zs ef es el e =
    ap (λ (i : ℕ). words (take i (ys ++ zs))) (sym es) ∙ ap words (take_at ys zs size el) ∙ e ∙ ap (fold_list 0 by) (values_of_part n k l ef es levels)

-- what is laid from there is the fold
pub next-laid : (n k l by : ℕ) (levels half levels' : List ℕ) → l < n → words (take (level_length n k l) half) ≡ level_folded n k l 0 by levels
    → words levels' ≡ laid n k (l + 1) (words (take (2 * level_length n k (l + 1)) half)) (words levels)
    → words levels' ≡ laid n k (suc l) (level_folded n k l 0 by levels) (words levels)
next-laid n k l by levels half levels' h ef el =
    let new : words levels' ≡ laid n k (suc l) (words (take (2 * level_length n k (suc l)) half)) (words levels) = rw add-one at el in
    new ∙ ap (λ (vs : List ℕ). laid n k (suc l) vs (words levels)) (ap (λ (i : ℕ). words (take i half)) (sym (level-halves n k l (omega arith))) ∙ ef)

module _ (n k : ℕ) (challenges old : List ℕ) where
  pub folded-none : length old ≡ 2 * levels_length n k → Folded n k challenges old 0 0 old
  unfolding level level_start total
  folded-none long =
      record {
        within = omega arith;
        from= = refl;
        long = long;
        each = λ j h. let e : j ≡ 0 = omega arith in rw e refl;
      }

  module _ {l from to by : ℕ} {levels : List ℕ} (levels' : List ℕ) (f : Folded n k challenges old l from levels) (h : l < n) (eb : by ≡ at (words challenges) l)
      (et : to ≡ 2 * level_start n k (suc l)) (new : words levels' ≡ laid n k (suc l) (level_folded n k l 0 by levels) (words levels))
      (same : length levels' ≡ length levels) where
    words_long : length (words levels) ≡ levels_length n k
    words_long = length-words-even levels (levels_length n k) f.long

    next-is : level_values n k (words levels') (suc l) ≡ folded_level n k challenges old (suc l)
    unfolding level
    next-is =
        ap (λ (ws : List ℕ). level_values n k ws (suc l)) new
        ∙ laid-there n k l _ (words levels) h words_long (length-fold n k l 0 by (words levels) h words_long)
        ∙ ap (λ (b : ℕ). fold_list 0 b (level_values n k (words levels) l)) eb ∙ ap (fold_list 0 (at (words challenges) l)) (f.each l (omega arith))

    each-is : (j : ℕ) → j ≤ suc l → level_values n k (words levels') j ≡ folded_level n k challenges old j
    each-is j g =
        ⊎_elim
        (λ (e : j ≡ suc l). rw e next-is)
        (λ (b : j < suc l).
        ap (λ (ws : List ℕ). level_values n k ws j) new ∙ laid-before n k l _ (words levels) h words_long j (omega arith) ∙ f.each j (omega arith))
        (eq-or-lt_of_le {n = j} {m = suc l} g)

    pub folded_more : Folded n k challenges old (l + 1) to levels'
    folded_more = rw add-one (record { within = h; from= = et; long = same ∙ f.long; each = each-is })

  -- ---- all of them

  pub folded-all : {l from : ℕ} {levels : List ℕ} → Folded n k challenges old l from levels → n ≤ l
      → words levels ≡ levels_lent n (folded_level n k challenges old)
  folded-all {levels = levels} f h =
      levels-laid n k (words levels) (folded_level n k challenges old) (length-words-even levels (levels_length n k) f.long) (λ j g. f.each j (omega arith))

  -- each is where it belongs
  module _ (long : length old ≡ 2 * levels_length n k) where
    length-folded : (l : ℕ) → l ≤ n → length (folded_level n k challenges old l) ≡ level_length n k l
    unfolding level_length
    length-folded l h =
        length-level l (n + k - l) (level_values n k (words old) 0) (words challenges)
        (length-level_values n k 0 (words old) (omega arith) (length-words-even old (levels_length n k) long)
        ∙ ap (λ (i : ℕ). 2 ^ i) {x = n + k - 0} {y = l + (n + k - l)} (omega arith))

    module _ (levels : List ℕ) (e : words levels ≡ levels_lent n (folded_level n k challenges old)) where
      level-there : (l : ℕ) → l ≤ n → level_values n k (words levels) l ≡ folded_level n k challenges old l
      level-there l h = ap (λ (ws : List ℕ). level_values n k ws l) e ∙ level_values-end_to_end n k l (folded_level n k challenges old) length-folded h

      pub trees_same : (S : Scheme) → S.n ≡ n → trees_lent S (level_values n k (words levels)) ≡ trees_lent S (folded_level n k challenges old)
      trees_same S en = end_to_end-ext (suc S.n) _ _ (λ l h. ap (λ (x : List ℕ). flat (tree_for S l x)) (level-there l (omega (arith, en))))

      pub roots_same : (S : Scheme) → S.n ≡ n → roots_lent S (level_values n k (words levels)) ≡ roots_lent S (folded_level n k challenges old)
      roots_same S en = end_to_end-ext (suc S.n) _ _ (λ l h. ap (root_for S l) (level-there l (omega (arith, en))))
