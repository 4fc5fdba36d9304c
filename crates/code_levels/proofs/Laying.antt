-- A level laid behind the others: the levels before it stay, it is the fold of the one before, and all the levels are end to end.
use Prim.Native.Nat.{ℕ, zero, suc, ◌+◌, ◌-◌, ◌*◌, ◌/◌, ◌^◌, ◌<◌, ◌≤◌}
use mathlib.Core.Path.{◌≡◌, refl, sym, ◌∙◌, ap, ap₂}
use mathlib.Core.List.{List, [], ◌++◌, append_assoc}
use native.Mathlib.Nat.{mul-le-mul}
use native.Mathlib.Numerals.{add-one}
use native.Mathlib.Omega.{arith}
use lib.ListN.{length, take, drop, length-append}
use lib.Pow.{pow_mono}
use lib.Seq.{take_at, take_all, drop_at, drop-drop, length-take-le}
use Rattle.theory_laws.specs.Lists.{part}
use Rattle.theory_laws.proofs.Lists.{part_same, part-add}
use Rattle.theory_field.specs.Words.{words}
use Rattle.theory_field.proofs.Words.{take_words, drop-words, words_append}
use Rattle.theory_multilinear.specs.Fold.{fold_list}
use Rattle.theory_multilinear.proofs.Fold.{length-fold_list}
use Rattle.theory_record.specs.Widths.{level_length, total}
use Rattle.theory_record.specs.Trees.{end_to_end, levels_lent}
use Rattle.theory_record.specs.Build.{level_start, levels_length, level_values}
use Rattle.theory_record.proofs.Totals.{total-within, end_to_end-ext}
use Rattle.theory_record.proofs.Offsets.{level-halves, level-le, levels-length, level-within, length-level_values}
use Rattle.code_levels.specs.helpers.Levels.{laid, LevelLent}

-- ---- where levels start

pub next_start : (n k l : ℕ) → level_start n k (suc l) ≡ level_start n k l + level_length n k l
unfolding level_start total
next_start n k l = refl

pub next-from : (n k l : ℕ) {from size : ℕ} → from ≡ 2 * level_start n k l → size ≡ level_length n k l → from + 2 * size ≡ 2 * level_start n k (l + 1)
next-from n k l ef es = rw add-one (omega (arith, ef, es, next_start n k l))

-- the levels up to l end where the next starts
level_before : (n k l j : ℕ) → j ≤ l → level_start n k j + level_length n k j ≤ level_start n k (suc l)
unfolding level_start
level_before n k l j h = total-within (suc l) j (level_length n k) (omega arith)

-- ---- a level laid

-- in halves: the words ys in the place of words a to b of xs
pub words-laid : (a b h : ℕ) (xs ys : List ℕ) → 2 * a ≤ length xs → length ys ≡ 2 * h
    → words (take (2 * a) xs ++ (ys ++ drop (2 * b) xs)) ≡ take a (words xs) ++ (words ys ++ drop b (words xs))
words-laid a b h xs ys fits e =
    words_append (take (2 * a) xs) (ys ++ drop (2 * b) xs) a (length-take-le (2 * a) xs fits)
    ∙ ap₂ (λ (u v : List ℕ). u ++ v) (take_words a xs)
    (words_append ys (drop (2 * b) xs) h e ∙ ap (λ (u : List ℕ). words ys ++ u) (drop-words b xs))

module _ (n k l : ℕ) (vs ws : List ℕ) (h : l < n) (long : length ws ≡ levels_length n k) where
  in_front : length (take (level_start n k (suc l)) ws) ≡ level_start n k (suc l)
  in_front = length-take-le (level_start n k (suc l)) ws (omega (arith, level-within n k (suc l) h))

  -- the levels before stay
  pub laid-before : (j : ℕ) → j ≤ l → level_values n k (laid n k (suc l) vs ws) j ≡ level_values n k ws j
  unfolding level_values laid
  laid-before j g =
      part_same (level_start n k (suc l)) (level_length n k j) (level_start n k j) _ ws
      (take_at (take (level_start n k (suc l)) ws) _ (level_start n k (suc l)) in_front) (level_before n k l j g)

  -- what is laid is there
  pub laid-there : length vs ≡ level_length n k (suc l) → level_values n k (laid n k (suc l) vs ws) (suc l) ≡ vs
  unfolding level_values laid part
  laid-there e =
      ap (take (level_length n k (suc l))) (drop_at (take (level_start n k (suc l)) ws) _ (level_start n k (suc l)) in_front)
      ∙ take_at vs _ (level_length n k (suc l)) e

  -- and what was behind it
  pub laid-behind : length vs ≡ level_length n k (suc l)
      → drop (level_start n k (suc (suc l))) (laid n k (suc l) vs ws) ≡ drop (level_start n k (suc (suc l))) ws
  unfolding laid
  laid-behind e =
      ap (drop (level_start n k (suc (suc l)))) (sym (append_assoc (take (level_start n k (suc l)) ws) vs (drop (level_start n k (suc (suc l))) ws)))
      ∙ drop_at (take (level_start n k (suc l)) ws ++ vs) (drop (level_start n k (suc (suc l))) ws) (level_start n k (suc (suc l)))
      (length-append (take (level_start n k (suc l)) ws) vs ∙ omega (arith, in_front, next_start n k (suc l)))

-- lists that agree from a place on agree from any place behind it
pub behind_more : (i m j : ℕ) (xs ys : List ℕ) → j ≡ i + m → drop i xs ≡ drop i ys → drop j xs ≡ drop j ys
behind_more i m j xs ys e h = rw e (sym (drop-drop m i xs) ∙ ap (drop m) h ∙ drop-drop m i ys)

-- the fold of level l has the length of the next
pub length-fold : (n k l var by : ℕ) (ws : List ℕ) → l < n → length ws ≡ levels_length n k
    → length (fold_list var by (level_values n k ws l)) ≡ level_length n k (suc l)
length-fold n k l var by ws h long =
    length-fold_list var by (level_values n k ws l) ∙ ap (λ (x : ℕ). x / 2) (length-level_values n k l ws (omega arith) long)
    ∙ omega (arith, level-halves n k l (omega arith))

-- ---- all the levels

none : (ws : List ℕ) → part 0 0 ws ≡ []
unfolding part
none ws = refl

front : (n k m : ℕ) (ws : List ℕ) → part (level_start n k m) 0 ws ≡ end_to_end m (level_values n k ws)
unfolding end_to_end level_start total level_values
front n k zero ws = none ws
front n k (suc m) ws =
    part-add (level_start n k m) (level_length n k m) 0 ws
    ∙ ap₂ (λ (xs ys : List ℕ). xs ++ ys) (front n k m ws)
    (ap (λ (i : ℕ). part (level_length n k m) i ws) {x = 0 + level_start n k m} {y = level_start n k m} (omega arith))

pub levels-laid : (n k : ℕ) (ws : List ℕ) (f : ℕ → List ℕ) → length ws ≡ levels_length n k → ((j : ℕ) → j ≤ n → level_values n k ws j ≡ f j) → ws ≡ levels_lent n f
unfolding part
levels-laid n k ws f long each =
    sym (take_all (level_start n k (suc n)) ws (omega (arith, levels-length n k)))
    ∙ front n k (suc n) ws ∙ end_to_end-ext (suc n) (level_values n k ws) f (λ j h. each j (omega arith))

-- ---- sizes, as code computes them

pub record Within (from size levels half : ℕ) : Type 0 where
  pub size_le : size ≤ 16777216
  pub end_le : from + 2 * size ≤ levels
  pub levels_le : levels ≤ 67108864
  pub half_le : size ≤ half

pub within : {n k l from levels half size : ℕ} → LevelLent n k l from levels half → size ≡ level_length n k l → Within from size levels half
unfolding levels_length
within {n} {k} {l} z es =
    let r = z.room in
    let h = z.within in
    let ef = z.from= in
    let p : 2 ^ (n + k) ≤ 2 ^ 24 = pow_mono {i = n + k} {j = 24} (omega (arith, r.n_most, r.k_most)) in
    let q : 2 ^ k ≤ 2 ^ 4 = pow_mono {i = k} {j = 4} r.k_most in
    let s : 2 ^ suc n ≤ 2 ^ 21 = pow_mono {i = suc n} {j = 21} (omega (arith, r.n_most)) in
    let m : 2 ^ k * (2 ^ suc n - 1) ≤ 16 * 2097152 = mul-le-mul {m₂ = 2097152} q (omega arith) in
    record {
      size_le = omega (arith, es, level-le n k l);
      end_le = omega (arith, ef, es, r.levels_long, level-within n k l h);
      levels_le = omega (arith, r.levels_long, m);
      half_le = omega (arith, es, r.half_long, level-le n k l);
    }
