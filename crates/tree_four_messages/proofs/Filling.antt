-- Four messages filled one after the other in the strides of a buffer.
use Prim.Native.Nat.{ℕ, suc, ◌+◌, ◌-◌, ◌*◌, ◌≤◌, ◌<◌}
use mathlib.Core.Path.{◌≡◌, refl, sym, ◌∙◌, ap, ap₂}
use mathlib.Core.Logic.{⊎_elim}
use mathlib.Core.List.{List, [], ◌∷◌, ◌++◌}
use native.Mathlib.Nat.{le_refl, eq-or-lt_of_le}
use native.Mathlib.Omega.{arith}
use lib.ListN.{length, take, drop, set}
use lib.Seq.{drop-set-lt, take_at}
use Rattle.theory_laws.specs.Lists.{part, stored}
use Rattle.theory_laws.proofs.Lists.{part-add, part_same, take-stored, drop-stored}
use Rattle.theory_field.specs.Words.{words}
use Rattle.theory_merkle.specs.Message.{prefixed, leaf_rest}
use Rattle.bytes_numbers.specs.helpers.Put.{Put}
use Rattle.tree_four_messages.specs.helpers.Strides.{Each}
use Rattle.tree_four_messages.proofs.Values.{group_words}

-- ---- a part, after a store

drop_past : (i : ℕ) (l : List ℕ) (from : ℕ) (bs : List ℕ) → from + length bs ≤ i → drop i (stored l from bs) ≡ drop i l
unfolding stored
drop_past i l from [] h = refl
drop_past i l from (x ∷ bs) h = drop_past i (set l from x) (suc from) bs (omega arith) ∙ drop-set-lt i l from x (omega arith)

pub part-past : (n i : ℕ) (l : List ℕ) (from : ℕ) (bs : List ℕ) → from + length bs ≤ i → part n i (stored l from bs) ≡ part n i l
unfolding part
part-past n i l from bs h = ap (take n) (drop_past i l from bs h)

pub part-before : (n i : ℕ) (l : List ℕ) (from : ℕ) (bs : List ℕ) → i + n ≤ from → part n i (stored l from bs) ≡ part n i l
part-before n i l from bs h = part_same from n i (stored l from bs) l (take-stored from l from bs (le_refl from)) h

pub part-here : (p i : ℕ) (l bs : List ℕ) → i + p + length bs ≤ length l → part (p + length bs) i (stored l (i + p) bs) ≡ part p i l ++ bs
unfolding part
part-here p i l bs h =
    part-add p (length bs) i (stored l (i + p) bs)
    ∙ ap₂ (λ (a b : List ℕ). a ++ b) (part-before p i l (i + p) bs (le_refl (i + p)))
    (ap (take (length bs)) (drop-stored l (i + p) bs h) ∙ take_at bs (drop (i + p + length bs) l) (length bs) refl)

-- ---- messages filled one after the other: p bytes that stand there, and n more

module _ (m₀ : List ℕ) (p n : ℕ) (rest : ℕ → List ℕ) where
  -- the first k are whole, and in the other strides the p bytes stand as they did
  pub record StridesFilled (k : ℕ) (m : List ℕ) : Type 0 where
    pub done : (j : ℕ) → j < k → part (p + n) (1024 * j) m ≡ part p (1024 * j) m₀ ++ rest j
    pub left : (j : ℕ) → k ≤ j → j < 4 → part p (1024 * j) m ≡ part p (1024 * j) m₀

  pub strides_begin : StridesFilled 0 m₀
  strides_begin = record { done = λ j h. absurd (omega arith); left = λ j g h. refl }

  pub strides_step : (k from : ℕ) (m m' : List ℕ) (next : ℕ) → k < 4 → p + n ≤ 1024 → 4096 ≤ length m → from ≡ 1024 * k + p
      → Put m from n (rest k) m' next → StridesFilled k m → StridesFilled (k + 1) m'
  strides_step k from m m' next lt le room e w f =
      let z : m' ≡ stored m (1024 * k + p) (rest k) = w.bytes ∙ ap (λ i. stored m i (rest k)) e in
      let s = w.size in
      record {
        done = λ j h.
            ⊎_elim
            (λ (q : j ≡ k).
            rw q (ap (part (p + n) (1024 * k)) z ∙ ap (λ i. part (p + i) (1024 * k) (stored m (1024 * k + p) (rest k))) (sym s)
            ∙ part-here p (1024 * k) m (rest k) (omega arith) ∙ ap (λ (l : List ℕ). l ++ rest k) (f.left k (le_refl k) lt)))
            (λ (a : j < k). ap (part (p + n) (1024 * j)) z ∙ part-before (p + n) (1024 * j) m (1024 * k + p) (rest k) (omega arith) ∙ f.done j a)
            (eq-or-lt_of_le {n = j} {m = k} (omega arith));
        left = λ j g h. ap (part p (1024 * j)) z ∙ part-past p (1024 * j) m (1024 * k + p) (rest k) (omega arith) ∙ f.left j (omega arith) h;
      }

  pub strides_end : (k : ℕ) (m : List ℕ) → k ≤ 4 → 4 ≤ k → StridesFilled k m → Each (p + n) m (λ j. part p (1024 * j) m₀ ++ rest j)
  strides_end k m le ge f j h = f.done j (omega arith)

-- a prefix that begins each message
pub prefixes_end : (m₀ prefix : List ℕ) (k : ℕ) (m : List ℕ) → k ≤ 4 → 4 ≤ k → StridesFilled m₀ 0 (length prefix) (λ j. prefix) k m
    → Each (length prefix) m (λ j. prefix)
unfolding part
prefixes_end m₀ prefix k m le ge f j h =
    let z : 0 + length prefix ≡ length prefix = omega arith in
    rw z at (strides_end m₀ 0 (length prefix) (λ i. prefix) k m le ge f j h)

-- ---- what is put after the prefix

-- the rest of the leaf message of group k of those that are lent
pub leaf-rest_put : {from : ℕ} (width g h k : ℕ) (values : List ℕ) {m m' : List ℕ} {at n next : ℕ} → from ≡ 2 * (width * k) → h ≡ g
    → Put m at n (leaf_rest width h (words (take (from + 2 * width - from) (drop from values)))) m' next
    → Put m at n (leaf_rest width g (part width (width * k) (words values))) m' next
unfolding part
leaf-rest_put {from} width g h k values e eh p = rw (group_words values from (2 * width) width (width * k) e refl, eh) at p

-- the rest of a node message, of two children that stand one after the other
pub node_rest_put : (m : List ℕ) (at n from i : ℕ) (tree l r m' : List ℕ) {next : ℕ} → from ≡ i → l ≡ part 32 from tree → r ≡ part 32 (from + 32) tree
    → Put m at n (prefixed l ++ prefixed r) m' next → Put m at n (prefixed (part 32 i tree) ++ prefixed (part 32 (i + 32) tree)) m' next
node_rest_put m at n from i tree l r m' e el er p = rw (el, er, e) at p
