-- Trees put one behind the other, and the root of each: its last digest.
use Prim.Native.Nat.{ℕ, suc, ◌+◌, ◌-◌, ◌*◌, ◌<◌, ◌≤◌}
use mathlib.Core.Path.{◌≡◌, refl, sym, ◌∙◌, ap, ap₂}
use mathlib.Core.List.{List, [], ◌++◌, append_assoc, append-nil}
use native.Mathlib.Numerals.{add-one}
use native.Mathlib.Omega.{arith}
use lib.ListN.{length, get_or, take, drop, length-append}
use lib.Seq.{take_at, take_all, drop_at, drop-drop, length-take-le}
use Rattle.theory_laws.specs.Lists.{part, runs, flat}
use Rattle.theory_laws.proofs.Lists.{part_same, length_part, length-flat, runs-flat, get_d_runs}
use Rattle.theory_field.specs.Words.{words}
use Rattle.theory_blake3.specs.Modes.{under}
use Rattle.theory_blake3.proofs.Modes.{length-under}
use Rattle.theory_merkle.proofs.Tree.{tree_of-root}
use Rattle.bytes_numbers.specs.helpers.Put.{Put}
use Rattle.tree_digest.proofs.Messages.{message-is}
use Rattle.theory_record.specs.Domain.{level_domain}
use Rattle.theory_record.specs.declared.WidthSet.{WidthSet}
use Rattle.theory_record.specs.declared.Trees.{Trees}
use Rattle.theory_record.specs.Widths.{Widths, widths_of, level_length, level_width, level_groups, tree_length, total}
use Rattle.theory_record.specs.Trees.{end_to_end, tree_for, root_for, trees_lent, roots_lent}
use Rattle.theory_record.specs.Build.{level_start, levels_length, tree_start, level_values}
use Rattle.theory_record.proofs.Widths.{powers, level-shape, groups-pos}
use Rattle.theory_record.proofs.Totals.{length-end_to_end, total_ext, total-times}
use Rattle.theory_record.proofs.Offsets.{level-within, tree-within, values_of_part}
use Rattle.theory_record.proofs.Accepted.{length-tree_for, tree_for-long}
use Rattle.code_levels.proofs.Laying.{next_start}
use Rattle.code_level_trees.specs.helpers.Grown.{Grown}
use Rattle.theory_record.specs.Scheme.{scheme}
use Rattle.code_level_trees.specs.helpers.Room.{tree_made}

-- ---- places in lists, and of the levels

part-behind : (xs ys : List ℕ) (m a j : ℕ) → length xs ≡ a → m ≡ a + j → part 32 m (xs ++ ys) ≡ part 32 j ys
unfolding part
part-behind xs ys m a j e f =
    ap (λ (i : ℕ). take 32 (drop i (xs ++ ys))) f ∙ ap (take 32) (sym (drop-drop j a (xs ++ ys)))
    ∙ ap (λ (zs : List ℕ). take 32 (drop j zs)) (drop_at xs ys a e)

pub length_of_middle : (at bytes : ℕ) (ts : List ℕ) → at + bytes ≤ length ts → length (take (at + bytes - at) (drop at ts)) ≡ bytes
unfolding part
length_of_middle at bytes ts h =
    let d : at + bytes - at ≡ bytes = omega arith in
    ap (λ (i : ℕ). length (take i (drop at ts))) d ∙ length_part bytes at ts h

pub level-room : (n k l : ℕ) {from size levels : ℕ} → l ≤ n → from ≡ 2 * level_start n k l → size ≡ level_length n k l → levels ≡ 2 * levels_length n k
    → from + 2 * size ≤ levels
level-room n k l h ef es el = omega (arith, level-within n k l h)

-- the first level starts at 0
pub first-room : (n k : ℕ) {size levels : ℕ} → size ≡ level_length n k 0 → levels ≡ 2 * levels_length n k → 2 * size ≤ levels
unfolding level_start total
first-room n k es el = omega (arith, level-within n k 0 (omega arith))

-- ---- trees and roots by a set of widths

module _ (set : WidthSet) where
  -- ---- where trees start

  pub next-tree : (n k l : ℕ) → tree_start (widths_of set) n k (suc l) ≡ tree_start (widths_of set) n k l + tree_length (widths_of set) n k l
  unfolding tree_start total
  next-tree n k l = refl

  -- a tree has a digest
  tree_some : (n k l : ℕ) → 0 < tree_length (widths_of set) n k l
  unfolding tree_length level_groups
  tree_some n k l = omega (arith, groups-pos (widths_of set) n k l (level-shape (widths_of set) n k l (powers set)))

  pub tree-room : (n k l : ℕ) {at bytes trees : ℕ} → l ≤ n → at ≡ 32 * tree_start (widths_of set) n k l → bytes ≡ 32 * tree_length (widths_of set) n k l
      → trees ≡ 32 * tree_start (widths_of set) n k (suc n) → (at + bytes ≤ trees) × (32 ≤ bytes)
  tree-room n k l h ea eb et = (omega (arith, tree-within (widths_of set) n k l h), omega (arith, tree_some n k l))

  -- the first tree starts at 0
  pub first-tree-room : (n k : ℕ) {bytes trees : ℕ} → bytes ≡ 32 * tree_length (widths_of set) n k 0 → trees ≡ 32 * tree_start (widths_of set) n k (suc n)
      → (bytes ≤ trees) × (32 ≤ bytes)
  unfolding tree_start total
  first-tree-room n k eb et = (omega (arith, tree-within (widths_of set) n k 0 (omega arith)), omega (arith, tree_some n k 0))

  -- where level 0 and its tree start
  pub first_starts : (n k : ℕ) → (0 ≡ 2 * level_start n k 0) × (0 ≡ 32 * tree_start (widths_of set) n k 0)
  unfolding level_start tree_start total
  first_starts n k = (refl, refl)

module _ (how : Trees) where
  abbrev s : Widths
  s = widths_of how.set

  -- ---- the bytes of a tree, and its last digest

  module _ (base : List ℕ) (n k l : ℕ) (values : List ℕ) where
    abbrev tree : List (List ℕ)
    tree = tree_for (scheme how base n k) l values

    count : length tree ≡ tree_length s n k l
    count = length-tree_for (scheme how base n k) l values (powers how.set)

    pub length-tree : length (flat (tree_for (scheme how base n k) l values)) ≡ 32 * tree_length s n k l
    length-tree = length-flat 32 tree (tree_for-long (scheme how base n k) (length-under how.mode) l values) ∙ ap (λ (x : ℕ). 32 * x) count

    read_back : runs 32 (length tree) (flat tree) ≡ tree
    read_back =
        ap (runs 32 (length tree)) (sym (append-nil (flat tree))) ∙ runs-flat 32 tree [] (tree_for-long (scheme how base n k) (length-under how.mode) l values)

    digest-at : (i : ℕ) → i < length tree → part 32 (32 * i) (flat tree) ≡ get_or tree i []
    digest-at i h = sym (get_d_runs 32 (length tree) i (flat tree) h) ∙ ap (λ (ds : List (List ℕ)). get_or ds i []) read_back

    root-last : get_or tree (tree_length s n k l - 1) [] ≡ root_for (scheme how base n k) l values
    unfolding tree_for root_for tree_length
    root-last =
        tree_of-root (under how.mode) (level_domain base l) (level_length n k l) (level_width s n k l) (level-shape s n k l (powers how.set)).tree values

    last-digest : part 32 (32 * (tree_length s n k l - 1)) (flat tree) ≡ root_for (scheme how base n k) l values
    last-digest = digest-at (tree_length s n k l - 1) (omega (arith, count, tree_some how.set n k l)) ∙ root-last

  -- ---- trees and roots of levels, one after the other

  module _ (base : List ℕ) (n k : ℕ) (values : ℕ → List ℕ) where
    abbrev T : ℕ → List ℕ
    T l = flat (tree_for (scheme how base n k) l (values l))

    abbrev R : ℕ → List ℕ
    R l = root_for (scheme how base n k) l (values l)

    length_trees : (l : ℕ) → length (end_to_end l T) ≡ 32 * tree_start s n k l
    unfolding tree_start
    length_trees l =
        length-end_to_end l T ∙ total_ext l (λ i. length (T i)) (λ i. 32 * tree_length s n k i) (λ i h. length-tree base n k i (values i))
        ∙ total-times 32 l (tree_length s n k)

    -- one more tree
    grown : (l at : ℕ) (ts ts' : List ℕ) → l ≤ n → at ≡ 32 * tree_start s n k l → length ts ≡ 32 * tree_start s n k (suc n)
        → take at ts ≡ end_to_end l T → ts' ≡ take at ts ++ (T l ++ drop (32 * tree_start s n k (suc l)) ts)
        → take (32 * tree_start s n k (suc l)) ts' ≡ end_to_end (suc l) T
    unfolding end_to_end
    grown l at ts ts' h ea long before e =
        let front : length (take at ts) ≡ at = length-take-le at ts (omega (arith, tree-within s n k l h)) in
        let all : length (take at ts ++ T l) ≡ 32 * tree_start s n k (suc l) =
        length-append (take at ts) (T l) ∙ omega (arith, front, length-tree base n k l (values l), next-tree how.set n k l) in
        ap (take (32 * tree_start s n k (suc l))) (e ∙ sym (append_assoc (take at ts) (T l) (drop (32 * tree_start s n k (suc l)) ts)))
        ∙ take_at (take at ts ++ T l) (drop (32 * tree_start s n k (suc l)) ts) (32 * tree_start s n k (suc l)) all
        ∙ ap (λ (xs : List ℕ). xs ++ T l) before

    -- the root stands at its end
    root-there : (l to : ℕ) (ts : List ℕ) → to ≡ 32 * tree_start s n k (suc l) → take to ts ≡ end_to_end (suc l) T → part 32 (to - 32) ts ≡ R l
    unfolding end_to_end
    root-there l to ts et e =
        let some = tree_some how.set n k l in
        let next = next-tree how.set n k l in
        let fits : length (end_to_end l T ++ T l) ≤ to =
        omega (arith, length-append (end_to_end l T) (T l), length_trees l, length-tree base n k l (values l)) in
        part_same to 32 (to - 32) ts (end_to_end l T ++ T l) (e ∙ sym (take_all to (end_to_end l T ++ T l) fits)) (omega arith)
        ∙ part-behind (end_to_end l T) (T l) (to - 32) (32 * tree_start s n k l) (32 * (tree_length s n k l - 1)) (length_trees l) (omega arith)
        ∙ last-digest base n k l (values l)

    -- one more root
    rooted : (l place next : ℕ) (d roots roots' : List ℕ) → l ≤ n → place ≡ 32 * l → length roots ≡ 32 * (n + 1) → take place roots ≡ end_to_end l R
        → d ≡ R l → Put roots place 32 d roots' next → take next roots' ≡ end_to_end (suc l) R
    unfolding end_to_end
    rooted l place next d roots roots' h ep long before e p =
        message-is roots place 32 d roots' next p (omega arith) ∙ ap (λ (xs : List ℕ). xs ++ d) before ∙ ap (λ (ys : List ℕ). end_to_end l R ++ ys) e

    -- ---- as the loop asks for them

    pub begun : {from at next : ℕ} {ts roots roots' : List ℕ} → from ≡ level_length n k 0 → at ≡ 32 * tree_length s n k 0
        → length ts ≡ 32 * tree_start s n k (suc n) → length roots ≡ 32 * (n + 1) → length roots' ≡ length roots
        → take (32 * tree_length s n k 0) ts ≡ T 0 → Put roots 0 32 (part 32 (at - 32) ts) roots' next
        → Grown how base n k values 1 (2 * from) at next ts roots'
    unfolding end_to_end level_start tree_start total
    begun {from} {at} {next} {ts} {roots} {roots'} ef ea lt lr lr' first p =
        let here : take at ts ≡ end_to_end 1 T = ap (λ (i : ℕ). take i ts) ea ∙ first in
        record {
          least = omega arith;
          most = omega arith;
          from= = omega (arith, ef);
          at= = omega (arith, ea);
          place= = omega (arith, p.end);
          trees_long = lt;
          roots_long = lr' ∙ lr;
          trees_are = here;
          roots_are = rooted 0 0 next _ roots roots' (omega arith) (omega arith) lr refl (root-there 0 at ts (omega (arith, ea)) here) p;
        }

    pub grown-more : {l from at place size bytes next : ℕ} {ts ts' roots roots' : List ℕ} → Grown how base n k values l from at place ts roots → l ≤ n
        → size ≡ level_length n k l → bytes ≡ 32 * tree_length s n k l → ts' ≡ take at ts ++ (T l ++ drop (32 * tree_start s n k (suc l)) ts)
        → length ts' ≡ length ts → length roots' ≡ length roots → Put roots place 32 (part 32 (at + bytes - 32) ts') roots' next
        → Grown how base n k values (l + 1) (from + 2 * size) (at + bytes) next ts' roots'
    grown-more {l} {from} {at} {place} {size} {bytes} {next} {ts} {ts'} {roots} {roots'} g h es eb e lt lr p =
        let to : at + bytes ≡ 32 * tree_start s n k (suc l) = omega (arith, g.at=, eb, next-tree how.set n k l) in
        let here : take (at + bytes) ts' ≡ end_to_end (suc l) T =
        ap (λ (i : ℕ). take i ts') to ∙ grown l at ts ts' h g.at= g.trees_long g.trees_are e in
        rw add-one (record {
          least = omega arith;
          most = omega arith;
          from= = omega (arith, g.from=, es, next_start n k l);
          at= = to;
          place= = omega (arith, g.place=, p.end);
          trees_long = lt ∙ g.trees_long;
          roots_long = lr ∙ g.roots_long;
          trees_are = here;
          roots_are = rooted l place next _ roots roots' h g.place= g.roots_long g.roots_are (root-there l (at + bytes) ts' to here) p;
        })

    module _ {l from at place : ℕ} {ts roots : List ℕ} (g : Grown how base n k values l from at place ts roots) (h : n < l) where
      last : l ≡ suc n
      last = omega (arith, g.most)

      pub all_trees : ts ≡ trees_lent (scheme how base n k) values
      all_trees =
          sym (take_all at ts (omega (arith, g.trees_long, g.at=, ap (λ (i : ℕ). 32 * tree_start s n k i) last))) ∙ g.trees_are
          ∙ ap (λ (m : ℕ). end_to_end m T) last

      pub all_roots : roots ≡ roots_lent (scheme how base n k) values
      all_roots = sym (take_all place roots (omega (arith, g.roots_long, g.place=, last))) ∙ g.roots_are ∙ ap (λ (m : ℕ). end_to_end m R) last

  -- ---- one tree in its place

  pub tree_put : (base : List ℕ) (n k l : ℕ) {from size at bytes : ℕ} (xs ts : List ℕ) {mid : List ℕ} → from ≡ 2 * level_start n k l
      → size ≡ level_length n k l → at ≡ 32 * tree_start s n k l → bytes ≡ 32 * tree_length s n k l
      → mid ≡ flat (tree_for (scheme how base n k) l (words (take (from + 2 * size - from) (drop from xs))))
      → take at ts ++ (mid ++ drop (at + bytes - at) (drop at ts)) ≡ tree_made (scheme how base n k) l xs at ts
  tree_put base n k l {from} {size} {at} {bytes} xs ts ef es ea eb e =
      let to : at + (at + bytes - at) ≡ 32 * tree_start s n k (suc l) = omega (arith, next-tree how.set n k l) in
      ap₂ (λ (u v : List ℕ). take at ts ++ (u ++ v))
      (e ∙ ap (λ (w : List ℕ). flat (tree_for (scheme how base n k) l w)) (values_of_part n k l ef es xs))
      (drop-drop (at + bytes - at) at ts ∙ ap (λ (j : ℕ). drop j ts) to)

  -- level 0's tree made at the front is there
  pub first_made : (base : List ℕ) (n k : ℕ) (xs ts ts' : List ℕ) → ts' ≡ tree_made (scheme how base n k) 0 xs 0 ts
      → take (32 * tree_length s n k 0) ts' ≡ flat (tree_for (scheme how base n k) 0 (level_values n k (words xs) 0))
  first_made base n k xs ts ts' e =
      let values : List ℕ = level_values n k (words xs) 0 in
      ap (take (32 * tree_length s n k 0)) e
      ∙ take_at (flat (tree_for (scheme how base n k) 0 values)) _ (32 * tree_length s n k 0) (length-tree base n k 0 values)
