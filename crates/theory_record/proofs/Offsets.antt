-- Where the levels and their trees stand in what is lent, and the places of a query in its levels: all within the totals.
use Prim.Native.Nat.{ℕ, zero, suc, ◌+◌, ◌-◌, ◌*◌, ◌/◌, ◌^◌, ◌<◌, ◌≤◌}
use mathlib.Core.Path.{◌≡◌, sym, ◌∙◌, ap, ap₂}
use mathlib.Core.List.{List}
use native.Mathlib.Omega.{arith}
use native.Mathlib.Nat.{div-div-eq-div-mul}
use lib.ListN.{length, take, drop}
use lib.Seq.{take_all, take-take, drop-drop}
use lib.Pow.{pow_pos, pow-add, pow_mono, shr_lt}
use Rattle.theory_laws.specs.Table.{at}
use Rattle.theory_laws.specs.Lists.{part, runs, flat}
use Rattle.theory_laws.proofs.Lists.{AllLong, length_part, get_d_part, take-drop, length_runs, runs_of_flat, length-flat, runs-long}
use Rattle.theory_field.specs.Words.{words}
use Rattle.theory_field.proofs.Words.{take_words, drop-words}
use Rattle.theory_record.specs.Trees.{end_to_end}
use Rattle.theory_record.specs.Widths.{Widths, level_length, tree_length, total}
use Rattle.theory_record.specs.Query.{pair_of}
use Rattle.theory_record.specs.Build.{level_start, levels_length, tree_start, level_values, digests, level_tree}
use Rattle.theory_record.proofs.Totals.{total-times, total-within, part-end_to_end}

-- ---- lengths

-- a level is twice as long as the next
pub level-halves : (n k l : ℕ) → l < n + k → level_length n k l ≡ 2 * level_length n k (suc l)
unfolding level_length
level-halves n k l h =
    let e : n + k - l ≡ suc (n + k - suc l) = omega arith in
    ap (λ (i : ℕ). 2 ^ i) e ∙ omega arith

pub level-le : (n k l : ℕ) → level_length n k l ≤ 2 ^ (n + k)
unfolding level_length
level-le n k l = pow_mono {i = n + k - l} {j = n + k} (omega arith)

-- the last level has 2^k values
pub last-length : (n k : ℕ) → level_length n k n ≡ 2 ^ k
unfolding level_length
last-length n k = ap (λ (i : ℕ). 2 ^ i) {x = n + k - n} {y = k} (omega arith)

-- the first has 2^(n + k)
pub first-length : (n k : ℕ) → level_length n k 0 ≡ 2 ^ (n + k)
unfolding level_length
first-length n k = ap (λ (i : ℕ). 2 ^ i) {x = n + k - 0} {y = n + k} (omega arith)

-- the whole of a list
part-all : (n : ℕ) (l : List ℕ) → length l ≡ n → part n 0 l ≡ l
unfolding part
part-all n l e = take_all n l (omega arith)

-- ---- the levels end to end

start_and_twice : (n k l : ℕ) → l ≤ n + k → level_start n k l + 2 * level_length n k l ≡ 2 * 2 ^ (n + k)
unfolding level_start total
start_and_twice n k zero h = omega (arith, first-length n k)
start_and_twice n k (suc l) h = omega (arith, start_and_twice n k l (omega arith), level-halves n k l (omega arith))

-- all the levels together
pub levels-length : (n k : ℕ) → level_start n k (suc n) ≡ levels_length n k
unfolding levels_length level_start total
levels-length n k =
    let m : ℕ = 2 ^ suc n - 1 in
    let one_more : 2 * 2 ^ n ≡ m + 1 = omega (arith, pow_pos n) in
    let product : 2 ^ k * m + 2 ^ k ≡ 2 * (2 ^ n * 2 ^ k) = distribute (2 ^ k) (2 ^ n) m one_more in
    omega (arith, start_and_twice n k n (omega arith), last-length n k, pow-add 2 n k, product)
  where
    distribute : (a b m : ℕ) → 2 * b ≡ m + 1 → a * m + a ≡ 2 * (b * a)
    distribute a b m e = omega (arith, ap (λ (x : ℕ). a * x) e)

-- which is twice the first, less the last
pub levels-twice : (n k : ℕ) → levels_length n k + level_length n k n ≡ 2 * level_length n k 0
unfolding level_start total
levels-twice n k = omega (arith, levels-length n k, start_and_twice n k n (omega arith), first-length n k)

-- level l stands within them
pub level-within : (n k l : ℕ) → l ≤ n → level_start n k l + level_length n k l ≤ levels_length n k
unfolding level_start
level-within n k l h = rw (← (levels-length n k)) (total-within (suc n) l (level_length n k) (omega arith))

-- and tree l within the trees
pub tree-within : (s : Widths) (n k l : ℕ) → l ≤ n → tree_start s n k l + tree_length s n k l ≤ tree_start s n k (suc n)
unfolding tree_start
tree-within s n k l h = total-within (suc n) l (tree_length s n k) (omega arith)

-- ---- what stands there

pub length-level_values : (n k l : ℕ) (ws : List ℕ) → l ≤ n → length ws ≡ levels_length n k → length (level_values n k ws l) ≡ level_length n k l
unfolding level_values
length-level_values n k l ws h e = length_part (level_length n k l) (level_start n k l) ws (omega (arith, level-within n k l h))

-- level l, of levels lent end to end
pub level_values-end_to_end : (n k l : ℕ) (levels : ℕ → List ℕ) → ((j : ℕ) → j ≤ n → length (levels j) ≡ level_length n k j) → l ≤ n
    → level_values n k (end_to_end (suc n) levels) l ≡ levels l
unfolding level_values level_start
level_values-end_to_end n k l levels e h = part-end_to_end (suc n) l levels (level_length n k) (λ j g. e j (omega arith)) (omega arith)

-- a part of a part
part-within : (n i m j : ℕ) (l : List ℕ) → i + n ≤ m → part n i (part m j l) ≡ part n (j + i) l
unfolding part
part-within n i m j l h =
    take-drop n i (take m (drop j l)) ∙ ap (drop i) (take-take (i + n) m (drop j l) h) ∙ sym (take-drop n i (drop j l)) ∙ ap (take n) (drop-drop i j l)

-- a value of level l, and values of it from a place on, by where they stand in what is lent
module _ (n k l i : ℕ) (ws : List ℕ) where
  pub value_lent : i < level_length n k l → at (level_values n k ws l) i ≡ at ws (level_start n k l + i)
  unfolding level_values
  value_lent h = get_d_part (level_length n k l) (level_start n k l) i ws h

  pub values-lent : (c : ℕ) → i + c ≤ level_length n k l → part c i (level_values n k ws l) ≡ part c (level_start n k l + i) ws
  unfolding level_values
  values-lent c h = part-within c i (level_length n k l) (level_start n k l) ws h

module _ (c i : ℕ) (bytes : List ℕ) where
  pub length-digests : length (digests c i bytes) ≡ c
  unfolding digests
  length-digests = length_runs 32 c (part (32 * c) (32 * i) bytes)

  pub digests-long : 32 * (i + c) ≤ length bytes → AllLong 32 (digests c i bytes)
  unfolding digests
  digests-long h = runs-long 32 c (part (32 * c) (32 * i) bytes) (omega (arith, length_part (32 * c) (32 * i) bytes (omega arith)))

module _ (s : Widths) (n k l : ℕ) (ts : List ℕ) where
  pub length-level_tree : length (level_tree s n k ts l) ≡ tree_length s n k l
  unfolding level_tree
  length-level_tree = length-digests (tree_length s n k l) (tree_start s n k l) ts

  pub level_tree-long : l ≤ n → length ts ≡ 32 * tree_start s n k (suc n) → AllLong 32 (level_tree s n k ts l)
  unfolding level_tree
  level_tree-long h e = digests-long (tree_length s n k l) (tree_start s n k l) ts (omega (arith, tree-within s n k l h))

-- a tree lent by itself
pub digests-flat : (c : ℕ) (tree : List (List ℕ)) → length tree ≡ c → AllLong 32 tree → digests c 0 (flat tree) ≡ tree
unfolding digests
digests-flat c tree e a =
    let len : length (flat tree) ≡ 32 * c = length-flat 32 tree a ∙ ap (λ (x : ℕ). 32 * x) e in
    ap (runs 32 c) (part-all (32 * c) (flat tree) len) ∙ runs_of_flat 32 c tree e a

-- tree l, of trees lent end to end
pub level_tree-end_to_end : (s : Widths) (n k l : ℕ) (trees : ℕ → List (List ℕ))
    → ((j : ℕ) → j ≤ n → length (trees j) ≡ tree_length s n k j) → ((j : ℕ) → j ≤ n → AllLong 32 (trees j)) → l ≤ n
    → level_tree s n k (end_to_end (suc n) (λ j. flat (trees j))) l ≡ trees l
unfolding level_tree digests tree_start
level_tree-end_to_end s n k l trees e a h =
    let c : ℕ = tree_length s n k l in
    let bytes : ℕ → List ℕ = λ j. flat (trees j) in
    let size : ℕ → ℕ = λ j. 32 * tree_length s n k j in
    let len : (j : ℕ) → j < suc n → length (bytes j) ≡ size j = λ j g.
    length-flat 32 (trees j) (a j (omega arith)) ∙ ap (λ (x : ℕ). 32 * x) (e j (omega arith)) in
    let there : part (32 * c) (total l size) (end_to_end (suc n) bytes) ≡ flat (trees l) = part-end_to_end (suc n) l bytes size len (omega arith) in
    ap (λ (x : ℕ). runs 32 c (part (32 * c) x (end_to_end (suc n) bytes))) (sym (total-times 32 l (tree_length s n k)))
    ∙ ap (runs 32 c) there
    ∙ runs_of_flat 32 c (trees l) (e l h) (a l h)

-- ---- a query's places

module _ (n k l position : ℕ) (low : position < 2 ^ (n + k)) (h : l < n + k) where
  -- c's place is below the next level's length
  pub pair_lt : pair_of position l < level_length n k (suc l)
  unfolding pair_of level_length
  pair_lt =
      let e : n + k - suc l + suc l ≡ n + k = omega arith in
      shr_lt (n + k - suc l) (suc l) (rw e low)

  -- b's, and so a's, below this level's
  pub b_lt : 2 * pair_of position l + 1 < level_length n k l
  b_lt = omega (arith, pair_lt, level-halves n k l h)

-- the pair of the next level: q is one of its two places
pub pair-next : (position l : ℕ) → pair_of position (suc l) ≡ pair_of position l / 2
unfolding pair_of
pair-next position l = shift position (2 ^ suc l) (2 ^ suc (suc l)) (omega arith)
  where
    shift : (x a b : ℕ) → b ≡ a * 2 → x / b ≡ x / a / 2
    shift x a b e = rw e (sym (div-div-eq-div-mul x a 2))

-- level l, lent as a part of the levels' halves
pub values_of_part : (n k l : ℕ) {from size : ℕ} → from ≡ 2 * level_start n k l → size ≡ level_length n k l → (xs : List ℕ)
    → words (take (from + 2 * size - from) (drop from xs)) ≡ level_values n k (words xs) l
unfolding level_values part
values_of_part n k l {from} {size} ef es xs =
    let d : from + 2 * size - from ≡ 2 * level_length n k l = omega (arith, es) in
    ap₂ (λ (i j : ℕ). words (take i (drop j xs))) d ef
    ∙ take_words (level_length n k l) (drop (2 * level_start n k l) xs) ∙ ap (take (level_length n k l)) (drop-words (level_start n k l) xs)
