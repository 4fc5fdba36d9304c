-- The flat array of the stack: what its loops leave, and that pushing is merging.
use mathlib.Core.Path.{◌≡◌, refl, sym, ap, ap₂, ◌∙◌, fun_ext}
use mathlib.Core.List.{List, ◌∷◌, ◌++◌, append_assoc}
use Prim.Native.Nat.{ℕ, zero, suc, ◌+◌, ◌*◌, ◌-◌, ◌<◌, ◌≤◌}
use native.Mathlib.Nat.{not-suc-le-zero}
use native.Mathlib.Omega.{arith}
use native.Mathlib.Numerals.{add-one}
use borrow.Rule.Slice.PartMut.{put_mid}
use lib.ListN.{length, take, drop, get_or-append, length-take, length-drop}
use lib.Seq.{get_or-take, length-take-le, get_or-append-add, sets-eq}
use Rattle.theory_laws.specs.Table.{at}
use Rattle.theory_laws.specs.Lists.{part, stored}
use Rattle.theory_laws.proofs.Table.{tab-ext, length-tab, is-tab}
use Rattle.theory_laws.proofs.Lists.{length_part, get_d_part, lent-part}
use Rattle.bytes_numbers.proofs.Stores.{put_mid-stored}
use Rattle.theory_blake3.specs.Compression.{cv}
use Rattle.theory_blake3.specs.Tree.{pair, parent}
use Rattle.theory_blake3.specs.Stack.{entry, entries, merge, fold, joined, pushed, pushed_depth}
use Rattle.theory_blake3.proofs.Compression.{cv-cv}

-- ---- the loops

pub joined-turn : (key : List ℕ) (d left top : ℕ) (a u e o w r : List ℕ) → 0 < left → e ≡ entry a (top - 1) → o ≡ parent key d e u 0 → w ≡ cv o
    → joined key d left a top u ≡ r → joined key d (left - 1) a (top - 1) w ≡ r
unfolding joined
joined-turn key d zero top a u e o w r h p q s g = absurd (not-suc-le-zero h)
joined-turn key d (suc l) top a u e o w r h p q s g =
    let i : suc l - 1 ≡ l = omega arith in
    rw (i, s, q, p) g

pub joined_end : (key : List ℕ) (d left top : ℕ) (a u r : List ℕ) → left ≡ 0 → joined key d left a top u ≡ r → u ≡ r
unfolding joined
joined_end key d left top a u r e g = rw e at g

pub fold-turn : (key : List ℕ) (d : ℕ) (a : List ℕ) (top : ℕ) (e v : List ℕ) (o p : ℕ → List ℕ) (x : ℕ) → 0 < top
    → e ≡ entry a (top - 1) → v ≡ cv (o 0) → ((x : ℕ) → p x ≡ parent key d e v x)
    → fold key d (entries a (top - 1)) p x ≡ fold key d (entries a top) o x
unfolding fold entries
fold-turn key d a zero e v o p x h f g k = absurd (not-suc-le-zero h)
fold-turn key d a (suc n) e v o p x h f g k =
    let i : suc n - 1 ≡ n = omega arith in
    let f' = rw i at f in
    rw i (ap (λ (q : ℕ → List ℕ). fold key d (entries a n) q x) (fun_ext (λ y. k y ∙ rw (f', g))))

pub fold_end : (key : List ℕ) (d : ℕ) (a : List ℕ) (top : ℕ) (o : ℕ → List ℕ) (x : ℕ) → top ≡ 0 → o x ≡ fold key d (entries a top) o x
unfolding fold entries
fold_end key d a top o x e = rw e

-- where eight words can be lent, the array has them
lent_within : (a : List ℕ) (i : ℕ) → length (take (8 * i + 8 - 8 * i) (drop (8 * i) a)) ≡ 8 → 8 * i + 8 ≤ length a
lent_within a i e = omega (arith, e, length-take (8 * i + 8 - 8 * i) (drop (8 * i) a), length-drop (8 * i) a)

-- value i, read as a part of the array
pub entry_read : (a r : List ℕ) (i : ℕ) → length r ≡ 8 → r ≡ take (8 * i + 8 - 8 * i) (drop (8 * i) a) → r ≡ entry a i
unfolding entry
entry_read a r i n e =
    e ∙ lent-part 8 (8 * i) a
    ∙ is-tab (part 8 (8 * i) a) 8 (λ j. at a (8 * i + j)) (length_part 8 (8 * i) a (lent_within a i (ap length (sym e) ∙ n)))
    (λ j l. get_d_part 8 (8 * i) j a l)

-- value i, written as a part of the array
pub entry_put : (a v ys : List ℕ) (i : ℕ) → length v ≡ 8 → length ys ≡ length (take (8 * i + 8 - 8 * i) (drop (8 * i) a)) → ys ≡ v
    → put_mid (8 * i) (8 * i + 8 - 8 * i) a ys ≡ stored a (8 * i) v
entry_put a v ys i n l e =
    let h = lent_within a i (sym l ∙ ap length e ∙ n) in
    let z : 8 * i + 8 - 8 * i ≡ 8 = omega arith in
    rw (z, e) (put_mid-stored a (8 * i) 8 v h n)

-- ---- pushing is merging

entry-ext : (a b : List ℕ) (i : ℕ) → ((j : ℕ) → j < 8 * i + 8 → at a j ≡ at b j) → entry a i ≡ entry b i
unfolding entry
entry-ext a b i h = tab-ext 8 (λ k l. h (8 * i + k) (omega arith))

entries-ext : (a b : List ℕ) (n : ℕ) → ((j : ℕ) → j < 8 * n → at a j ≡ at b j) → entries a n ≡ entries b n
unfolding entries
entries-ext a b zero h = refl
entries-ext a b (suc n) h = ap₂ {B = List (List ℕ)} ◌∷◌ (entry-ext a b n (λ j l. h j (omega arith))) (entries-ext a b n (λ j l. h j (omega arith)))

-- a value is put at i
module _ (a v : List ℕ) (i : ℕ) (h : 8 * i + 8 ≤ length a) (w : length v ≡ 8) where
  stored_is : stored a (8 * i) v ≡ take (8 * i) a ++ (v ++ drop (8 * i + length v) a)
  unfolding stored
  stored_is = sets-eq v a (8 * i) (omega arith) ∙ append_assoc (take (8 * i) a) v (drop (8 * i + length v) a)

  put_below : (k : ℕ) → k < 8 * i → at (stored a (8 * i) v) k ≡ at a k
  put_below k l =
      let n : length (take (8 * i) a) ≡ 8 * i = length-take-le (8 * i) a (omega arith) in
      ap (λ (x : List ℕ). at x k) stored_is ∙ get_or-append (take (8 * i) a) (v ++ drop (8 * i + length v) a) 0 k (omega arith) ∙ get_or-take (8 * i) a k 0 l

  put_at : (j : ℕ) → j < 8 → at (stored a (8 * i) v) (8 * i + j) ≡ at v j
  put_at j l =
      let n : length (take (8 * i) a) ≡ 8 * i = length-take-le (8 * i) a (omega arith) in
      ap (λ (x : List ℕ). at x (8 * i + j)) stored_is
      ∙ (rw n at (get_or-append-add (take (8 * i) a) (v ++ drop (8 * i + length v) a) j 0))
      ∙ get_or-append v (drop (8 * i + length v) a) 0 j (omega arith)

  put_entries : entries (stored a (8 * i) v) (i + 1) ≡ cv v ∷ entries a i
  unfolding entries entry cv
  put_entries =
      rw (add-one i)
      (ap₂ {B = List (List ℕ)} ◌∷◌ (tab-ext 8 (λ k l. put_at k l)) (entries-ext (stored a (8 * i) v) a i put_below))

parent-cv : (key : List ℕ) (d : ℕ) (l r : List ℕ) (x : ℕ) → parent key d l (cv r) x ≡ parent key d l r x
unfolding parent pair
parent-cv key d l r x = rw cv-cv

pub length-cv : (w : List ℕ) → length (cv w) ≡ 8
unfolding cv
length-cv w = length-tab 8 (at w)

-- joining in the array and merging the list go together
pub pushed-merge : (key : List ℕ) (d m n : ℕ) (a v : List ℕ) → m ≤ n → 8 * (n - m) + 8 ≤ length a → length v ≡ 8
    → entries (pushed key d m a n v) (pushed_depth m n) ≡ merge key d m (entries a n) (cv v)
unfolding pushed pushed_depth joined merge entries
pushed-merge key d zero n a v h l w =
    let e : n - 0 ≡ n = omega arith in
    rw e (put_entries a v n (omega arith) w)
pushed-merge key d (suc m) zero a v h l w = absurd (not-suc-le-zero h)
pushed-merge key d (suc m) (suc n) a v h l w =
    let i : suc n - suc m ≡ n - m = omega arith in
    let j : suc n - 1 ≡ n = omega arith in
    let o = parent key d (entry a n) v 0 in
    rw (i, j, parent-cv key d (entry a n) v 0)
    (pushed-merge key d m n a (cv o) (omega arith) (omega arith) (length-cv o) ∙ ap (merge key d m (entries a n)) (cv-cv o))
