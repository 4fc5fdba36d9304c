-- Stores one after the other, in the form in which the functions ask for them.
use Prim.Native.Nat.{ℕ, ◌+◌, ◌*◌, ◌≤◌, ◌<◌}
use mathlib.Core.Path.{◌≡◌, refl, sym, ◌∙◌, ap}
use mathlib.Core.List.{List, ◌++◌, map, append_assoc, append-nil}
use native.Mathlib.Omega.{arith}
use native.Mathlib.Numerals.{add-one}
use lib.ListN.{length, get_or, drop, drop_of_length-le}
use lib.Seq.{drop-cons}
use Rattle.theory_laws.specs.Lists.{stored, flat, le_bytes}
use Rattle.theory_laws.proofs.Lists.{stored-nil, stored-append, length-le_bytes}
use Rattle.theory_field.specs.Words.{words}
use Rattle.theory_field.proofs.Words.{Halves}
use Rattle.theory_merkle.specs.Message.{prefixed, serialize_prefix, leaf_label, node_label, leaf_prefix, leaf_rest, node_prefix}
use Rattle.theory_laws.proofs.Bytes.{length-numbers}
use Rattle.bytes_numbers.specs.helpers.Put.{Put}
use Rattle.bytes_numbers.proofs.Stores.{then_put, same_put}
use Rattle.tree_message.proofs.Halves.{words_bytes-halves}

-- ---- parts

-- a number as a part
pub number-part_put : (o : List ℕ) (from x : ℕ) (o1 : List ℕ) (j : ℕ) (o2 : List ℕ) (k : ℕ) → Put o from 8 (le_bytes 8 8) o1 j → Put o1 j 8 (le_bytes 8 x) o2 k
    → Put o from 16 (prefixed (le_bytes 8 x)) o2 k
unfolding prefixed
number-part_put o from x o1 j o2 k a b =
    same_put o from 16 16 (le_bytes 8 8 ++ le_bytes 8 x) (le_bytes 8 (length (le_bytes 8 x)) ++ le_bytes 8 x) o2 k refl (rw length-le_bytes)
    (then_put o from 8 (le_bytes 8 8) o1 j 8 (le_bytes 8 x) o2 k a b)

-- ---- the constant parts of messages
module _ (o : List ℕ) (domain o1 o2 o3 o4 : List ℕ) (j1 j2 j3 j4 : ℕ) where
  -- a count of 5, a label of n bytes and the domain
  labelled : (n : ℕ) (label : List ℕ) → Put o 0 8 (le_bytes 8 5) o1 j1 → Put o1 j1 (8 + n) (prefixed label) o2 j2
      → Put o2 j2 (8 + length domain) (prefixed domain) o3 j3
      → Put o 0 (8 + (8 + n) + (8 + length domain)) (le_bytes 8 5 ++ prefixed label ++ prefixed domain) o3 j3
  labelled n label a b c = then_put o 0 _ _ o2 j2 _ _ o3 j3 (then_put o 0 _ _ o1 j1 _ _ o2 j2 a b) c

  pub node_prefix_put : (level : ℕ) → Put o 0 8 (le_bytes 8 5) o1 j1 → Put o1 j1 24 (prefixed node_label) o2 j2
      → Put o2 j2 (8 + length domain) (prefixed domain) o3 j3
      → Put o3 j3 16 (prefixed (le_bytes 8 level)) o4 j4 → Put o 0 (56 + length domain) (node_prefix domain level) o4 j4
  unfolding node_prefix serialize_prefix flat
  node_prefix_put level a b c d =
      same_put o 0 _ (56 + length domain) _ (node_prefix domain level) o4 j4 (omega arith) (simp (append_assoc, append-nil))
      (then_put o 0 _ _ o3 j3 _ _ o4 j4 (labelled 16 node_label a b c) d)

  pub leaf-prefix_put : (count width : ℕ) (o5 : List ℕ) (j5 : ℕ) → Put o 0 8 (le_bytes 8 5) o1 j1 → Put o1 j1 25 (prefixed leaf_label) o2 j2
      → Put o2 j2 (8 + length domain) (prefixed domain) o3 j3
      → Put o3 j3 16 (prefixed (le_bytes 8 count)) o4 j4 → Put o4 j4 16 (prefixed (le_bytes 8 width)) o5 j5
      → Put o 0 (73 + length domain) (leaf_prefix domain count width) o5 j5
  unfolding leaf_prefix serialize_prefix flat
  leaf-prefix_put count width o5 j5 a b c d e =
      same_put o 0 _ (73 + length domain) _ (leaf_prefix domain count width) o5 j5 (omega arith) (simp (append_assoc, append-nil))
      (then_put o 0 _ _ o4 j4 _ _ o5 j5 (then_put o 0 _ _ o3 j3 _ _ o4 j4 (labelled 17 leaf_label a b c) d) e)

-- ---- words

-- the halves that are left give the final buffer
pub halves-step : (out : List ℕ) (from : ℕ) (values : List ℕ) (i : ℕ) (r out' : List ℕ) (k : ℕ) → i < length values
    → Put out from 8 (le_bytes 8 (get_or values i 0)) out' k
    → stored out from (flat (map (le_bytes 8) (drop i values))) ≡ r → stored out' k (flat (map (le_bytes 8) (drop (i + 1) values))) ≡ r
unfolding flat
halves-step out from values i r out' k h p e =
    let z : k ≡ from + length (le_bytes 8 (get_or values i 0)) = p.end ∙ ap (λ n. from + n) (sym p.size) in
    rw (add-one, z, p.bytes, ← stored-append out from (le_bytes 8 (get_or values i 0))) (rw (drop-cons values i 0 h) at e)

pub halves-all : (o : List ℕ) (from : ℕ) (values out : List ℕ) (i k : ℕ) → i ≤ length values → length values ≤ i → k ≡ from + 8 * i
    → stored out k (flat (map (le_bytes 8) (drop i values))) ≡ stored o from (flat (map (le_bytes 8) values))
    → Put o from (8 * length values) (flat (map (le_bytes 8) values)) out k
unfolding flat
halves-all o from values out i k l h e f =
    let z : i ≡ length values = omega arith in
    record { bytes = rw (drop_of_length-le values h, stored-nil) at f; size = length-numbers 8 values; end = e ∙ ap (λ n. from + 8 * n) z }

pub leaf-rest_put : (o : List ℕ) (from width group g : ℕ) (values o1 o2 o3 o4 : List ℕ) (j1 j2 j3 j4 : ℕ) → length values ≡ 2 * width → Halves values
    → g ≡ group → Put o from 8 (le_bytes 8 width) o1 j1 → Put o1 j1 8 (le_bytes 8 g) o2 j2 → Put o2 j2 8 (le_bytes 8 (16 * width)) o3 j3
    → Put o3 j3 (8 * length values) (flat (map (le_bytes 8) values)) o4 j4 → Put o from (24 + 16 * width) (leaf_rest width group (words values)) o4 j4
unfolding leaf_rest
leaf-rest_put o from width group g values o1 o2 o3 o4 j1 j2 j3 j4 n h e a b c d =
    same_put o from _ (24 + 16 * width) _ (leaf_rest width group (words values)) o4 j4 (omega arith) (rw (words_bytes-halves values width n h))
    (then_put o from _ _ o3 j3 _ _ o4 j4 (then_put o from _ _ o2 j2 _ _ o3 j3 (then_put o from _ _ o1 j1 _ _ o2 j2 a (rw e at b)) c) d)

-- ---- digests

pub digests_put : (o : List ℕ) (from : ℕ) (l r o1 : List ℕ) (j : ℕ) (o2 : List ℕ) (k : ℕ) → length l ≡ 32 → length r ≡ 32
    → Put o from (8 + length l) (prefixed l) o1 j → Put o1 j (8 + length r) (prefixed r) o2 k → Put o from 80 (prefixed l ++ prefixed r) o2 k
digests_put o from l r o1 j o2 k hl hr a b = same_put o from _ 80 _ (prefixed l ++ prefixed r) o2 k (omega arith) refl (then_put o from _ _ o1 j _ _ o2 k a b)
