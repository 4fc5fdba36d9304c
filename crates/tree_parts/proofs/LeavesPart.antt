-- The leaves of a run of groups are a part of the tree as it is lent.
use Prim.Native.Nat.{ℕ, zero, suc, ◌+◌, ◌-◌, ◌*◌, ◌/◌, ◌%◌, ◌≤◌}
use mathlib.Core.Path.{◌≡◌, refl, sym, ◌∙◌, ap}
use mathlib.Core.List.{List, [], ◌++◌, append_assoc}
use native.Mathlib.Nat.{mul-add}
use native.Mathlib.Omega.{arith}
use lib.ListN.{length, take, drop}
use Rattle.theory_laws.specs.Lists.{part, runs, flat, stored}
use Rattle.theory_laws.proofs.Lists.{length_runs, runs-take, flat_append, stored-all}
use Rattle.theory_laws.proofs.Parts.{part-between}
use Rattle.theory_field.specs.Words.{words}
use Rattle.theory_merkle.specs.Digests.{DigestsLong}
use Rattle.theory_merkle.specs.Shape.{Shape}
use Rattle.theory_merkle.specs.Tree.{depth_of, leaves_from, leaves, parents, levels_from, levels, end_to_end, tree_of}
use Rattle.tree_four_messages.proofs.Values.{group_words}
use Rattle.tree_by_fours.proofs.Splits.{leaves-split, length-flat-leaves}
use Rattle.tree_build.proofs.Leaves.{groups-room}

-- a run of groups ends within the values
pub run_room : (count width first m : ℕ) → Shape count width → first + m ≤ count / width → width * first + width * m ≤ count
run_room count width first m s h = omega (arith, mul-add width first m, groups-room count width (first + m) s h)

module _ (H : List ℕ → List ℕ) (sized : DigestsLong H) (domain : List ℕ) where
  -- the levels above digests, end to end
  abbrev above : ℕ → ℕ → List (List ℕ) → List (List ℕ)
  above zero level ds = []
  above (suc depth) level ds = end_to_end (levels_from H domain depth (suc level) (parents H domain level ds))

  -- a tree begins with its leaves
  leaves-first : (depth level : ℕ) (ds : List (List ℕ)) → end_to_end (levels_from H domain depth level ds) ≡ ds ++ above depth level ds
  unfolding end_to_end levels_from
  leaves-first zero level ds = refl
  leaves-first (suc depth) level ds = refl

  module _ (count width : ℕ) (ws : List ℕ) where
    -- the leaves of m groups from group i on
    abbrev from_group : ℕ → ℕ → List (List ℕ)
    from_group i m = leaves_from H domain count width i (runs width m (drop (width * i) ws))

    length_from : (i m : ℕ) → length (flat (from_group i m)) ≡ 32 * m
    length_from i m = length-flat-leaves H domain sized count width i (runs width m (drop (width * i) ws))
        ∙ ap (λ k. 32 * k) (length_runs width m (drop (width * i) ws))

    -- all leaves, divided before group i and after m more
    divided : (i m rest : ℕ) → i + (m + rest) ≡ count / width
        → leaves H domain count width ws
        ≡ from_group 0 i ++ (from_group i m ++ leaves_from H domain count width (i + m) (runs width rest (drop (width * m) (drop (width * i) ws))))
    unfolding leaves
    divided i m rest s =
        let z : width * 0 ≡ 0 = omega arith in
        ap (λ k. leaves_from H domain count width 0 (runs width k ws)) (sym s)
        ∙ leaves-split H domain count width 0 i (m + rest) ws
        ∙ rw (z, let y : 0 + i ≡ i = omega arith in y)
        (ap (λ (x : List (List ℕ)). leaves_from H domain count width 0 (runs width i ws) ++ x)
        (leaves-split H domain count width i m rest (drop (width * i) ws)))

    pub leaves-part : (i m : ℕ) → i + m ≤ count / width
        → flat (from_group i m) ≡ part (32 * m) (32 * i) (flat (tree_of H domain count width ws))
    unfolding tree_of levels
    leaves-part i m h =
        let rest : ℕ = count / width - (i + m) in
        let depth : ℕ = depth_of count width in
        let a : List (List ℕ) = from_group 0 i in
        let b : List (List ℕ) = from_group i m in
        let c : List (List ℕ) = leaves_from H domain count width (i + m) (runs width rest (drop (width * m) (drop (width * i) ws))) in
        let t : List (List ℕ) = above depth 0 (leaves H domain count width ws) in
        let whole : flat (end_to_end (levels_from H domain depth 0 (leaves H domain count width ws))) ≡ flat a ++ (flat b ++ flat (c ++ t)) =
        ap flat (leaves-first depth 0 (leaves H domain count width ws) ∙ ap (λ (x : List (List ℕ)). x ++ t) (divided i m rest (omega arith))
        ∙ append_assoc a (b ++ c) t ∙ ap (λ (x : List (List ℕ)). a ++ x) (append_assoc b c t))
        ∙ flat_append a (b ++ (c ++ t)) ∙ ap (λ (x : List ℕ). flat a ++ x) (flat_append b (c ++ t)) in
        sym (ap (part (32 * m) (32 * i)) whole ∙ part-between (32 * m) (32 * i) (flat a) (flat b) (flat (c ++ t)) (length_from 0 i) (length_from i m))

    pub all-leaves : flat (leaves H domain count width ws) ≡ part (32 * (count / width)) 0 (flat (tree_of H domain count width ws))
    unfolding leaves
    all-leaves = let z : width * 0 ≡ 0 = omega arith in rw z at (leaves-part 0 (count / width) (omega arith))

    pub is-tree : end_to_end (levels_from H domain (depth_of count width) 0 (leaves H domain count width ws)) ≡ tree_of H domain count width ws
    unfolding tree_of levels
    is-tree = refl

  -- what is put for groups whose values are a part of those lent
  pub leaves-made : (count width first : ℕ) (values out out' : List ℕ) → first + length out / 32 ≤ count / width → length out % 32 ≡ 0
      → out' ≡ stored out 0 (flat (leaves_from H domain count width first (runs width (length out / 32)
      (words (take (2 * (width * first) + 2 * (width * (length out / 32)) - 2 * (width * first)) (drop (2 * (width * first)) values))))))
      → out' ≡ part (length out) (32 * first) (flat (tree_of H domain count width (words values)))
  leaves-made count width first values out out' h whole e =
      let m : ℕ = length out / 32 in
      let l : List ℕ = drop (width * first) (words values) in
      let n : 32 * m ≡ length out = omega arith in
      let lent : runs width m (words (take (2 * (width * first) + 2 * (width * m) - 2 * (width * first)) (drop (2 * (width * first)) values)))
      ≡ runs width m l =
      ap (runs width m) (group_words values (2 * (width * first)) (2 * (width * m)) (width * m) (width * first) refl refl) ∙ runs-take width m l in
      e ∙ ap (λ (xs : List (List ℕ)). stored out 0 (flat (leaves_from H domain count width first xs))) lent
      ∙ stored-all out (flat (from_group count width (words values) first m)) (length_from count width (words values) first m ∙ n)
      ∙ leaves-part count width (words values) first m h
      ∙ ap (λ k. part k (32 * first) (flat (tree_of H domain count width (words values)))) n
