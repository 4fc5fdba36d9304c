-- A tree over a list of values: its leaves, its size, and the path of a place that leads to its root, over the width as a variable.
use Prim.Native.Nat.{ℕ, zero, suc, ◌+◌, ◌*◌, ◌-◌, ◌/◌, ◌^◌, ◌≤◌, ◌<◌}
use mathlib.Core.Path.{◌≡◌, refl, sym, ◌∙◌, ap, ap₂}
use mathlib.Core.List.{List, [], ◌∷◌}
use native.Mathlib.Nat.{div_self}
use native.Mathlib.Omega.{arith}
use lib.Pow.{pow_pos}
use lib.ListN.{length, get_or}
use lib.Seq.{take_all}
use Rattle.theory_laws.specs.Lists.{part, runs, flat}
use Rattle.theory_laws.proofs.Lists.{AllLong, length_runs, get_d_runs, runs_of_flat, length-flat}
use Rattle.theory_merkle.specs.Digests.{DigestsLong}
use Rattle.theory_merkle.specs.Message.{leaf_message}
use Rattle.theory_merkle.specs.Tree.{group_of, log2, depth_of, tree_size, root, path, end_to_end, leaf_digest, leaves_from, leaves}
use Rattle.theory_merkle.specs.Tree.{levels_from, levels, climb, leaf_of, tree_of, root_of, root_of_path, path_of}
use Rattle.theory_merkle.specs.Shape.{Shape}
use Rattle.theory_merkle.proofs.Sizes.{group_lt, log2_end}
use Rattle.theory_merkle.proofs.Levels.{length-path, path-long, path_leads_to-root, length-end_to_end, levels_of-end_to_end, end_to_end-long, root-last}

-- the values of the group of a place
abbrev pub group_values : ℕ → ℕ → List ℕ → List ℕ
group_values width place values = part width (width * group_of place width) values

module _ (H : List ℕ → List ℕ) (domain : List ℕ) (count width : ℕ) where
  -- ---- the leaves

  length-leaves_from : (g : ℕ) (groups : List (List ℕ)) → length (leaves_from H domain count width g groups) ≡ length groups
  unfolding leaves_from
  length-leaves_from g [] = refl
  length-leaves_from g (values ∷ groups) = ap suc (length-leaves_from (suc g) groups)

  leaves_from-at : (g k : ℕ) (groups : List (List ℕ)) → k < length groups
      → get_or (leaves_from H domain count width g groups) k [] ≡ leaf_digest H domain count width (g + k) (get_or groups k [])
  unfolding leaves_from
  leaves_from-at g k [] h = absurd (omega arith)
  leaves_from-at g zero (values ∷ groups) h = ap (λ i. leaf_digest H domain count width i values) (let z : g ≡ g + 0 = omega arith in z)
  leaves_from-at g (suc k) (values ∷ groups) h =
      let z : suc g + k ≡ g + suc k = omega arith in
      leaves_from-at (suc g) k groups (omega arith) ∙ ap (λ i. leaf_digest H domain count width i (get_or groups k [])) z

  pub length-leaves : (values : List ℕ) → length (leaves H domain count width values) ≡ count / width
  unfolding leaves
  length-leaves values = length-leaves_from 0 (runs width (count / width) values) ∙ length_runs width (count / width) values

  -- leaf g is the digest of group g: width values from place width × g on
  pub leaf-at : (g : ℕ) (values : List ℕ) → g < count / width
      → get_or (leaves H domain count width values) g [] ≡ leaf_digest H domain count width g (part width (width * g) values)
  unfolding leaves
  leaf-at g values h =
      leaves_from-at 0 g (runs width (count / width) values) (rw length_runs h)
      ∙ ap₂ (λ i vs. leaf_digest H domain count width i vs) (let z : 0 + g ≡ g = omega arith in z) (get_d_runs width (count / width) g values h)

  module _ (sized : DigestsLong H) where
    leaves_from-long : (g : ℕ) (groups : List (List ℕ)) → AllLong 32 (leaves_from H domain count width g groups)
    unfolding leaves_from leaf_digest
    leaves_from-long g [] = tt
    leaves_from-long g (values ∷ groups) = (sized (leaf_message domain count width g values), leaves_from-long (suc g) groups)

    pub leaves-long : (values : List ℕ) → AllLong 32 (leaves H domain count width values)
    unfolding leaves
    leaves-long values = leaves_from-long 0 (runs width (count / width) values)

    pub tree_of-long : (values : List ℕ) → AllLong 32 (tree_of H domain count width values)
    unfolding tree_of levels
    tree_of-long values = end_to_end-long H domain sized (depth_of count width) 0 (leaves H domain count width values) (leaves-long values)

  -- ---- a tree of 2^depth groups
  module _ (shape : Shape count width) (values : List ℕ) where
    leaves_fill : length (leaves H domain count width values) ≡ 2 ^ depth_of count width
    leaves_fill = length-leaves values ∙ shape.groups

    -- 2 × groups − 1 digests
    pub length-tree_of : length (tree_of H domain count width values) ≡ tree_size count width
    unfolding tree_of levels
    length-tree_of =
        let e = length-end_to_end H domain (depth_of count width) 0 (leaves H domain count width values) leaves_fill in
        rw shape.groups (omega arith)

    -- the last digest of a lent tree is its root
    pub tree_of-root : get_or (tree_of H domain count width values) (tree_size count width - 1) [] ≡ root_of H domain count width values
    unfolding tree_of root_of levels
    tree_of-root =
        let d : ℕ = depth_of count width in
        let ds : List (List ℕ) = leaves H domain count width values in
        let z : tree_size count width - 1 ≡ 2 ^ suc d - 2 = rw shape.groups (omega arith) in
        ap (λ i. get_or (end_to_end (levels_from H domain d 0 ds)) i []) z
        ∙ sym (root-last d (end_to_end (levels_from H domain d 0 ds)))
        ∙ ap (root d) (levels_of-end_to_end H domain d 0 ds leaves_fill)

    -- the path read off a built tree leads to its root from the group's own values
    pub path_of_tree_leads_to-root : (place : ℕ) → place < count
        → root_of_path H domain count width place (group_values width place values) (path_of count width place (tree_of H domain count width values))
        ≡ root_of H domain count width values
    unfolding root_of_path leaf_of path_of tree_of root_of levels
    path_of_tree_leads_to-root place h =
        let d : ℕ = depth_of count width in
        let g : ℕ = group_of place width in
        let ds : List (List ℕ) = leaves H domain count width values in
        let lt : g < 2 ^ d = group_lt count width place shape h in
        ap₂ (λ (x : List ℕ) (ls : List (List (List ℕ))). climb H domain 0 g x (path d ls g))
        (sym (leaf-at g values (rw shape.groups lt))) (levels_of-end_to_end H domain d 0 ds leaves_fill)
        ∙ path_leads_to-root H domain d 0 ds g leaves_fill lt

-- ---- sizes in bytes

-- the tree's bytes are the tree
pub runs-tree : (H : List ℕ → List ℕ) (domain : List ℕ) (count width : ℕ) → DigestsLong H → Shape count width → (values : List ℕ)
    → runs 32 (tree_size count width) (flat (tree_of H domain count width values)) ≡ tree_of H domain count width values
runs-tree H domain count width sized shape values =
    runs_of_flat 32 (tree_size count width) (tree_of H domain count width values) (length-tree_of H domain count width shape values)
    (tree_of-long H domain count width sized values)

pub length-flat-tree : (H : List ℕ → List ℕ) (domain : List ℕ) (count width : ℕ) → DigestsLong H → Shape count width → (values : List ℕ)
    → length (flat (tree_of H domain count width values)) ≡ 32 * tree_size count width
length-flat-tree H domain count width sized shape values =
    length-flat 32 (tree_of H domain count width values) (tree_of-long H domain count width sized values)
    ∙ ap (λ n. 32 * n) (length-tree_of H domain count width shape values)

pub length-path_of : (count width place : ℕ) (t : List (List ℕ)) → length (path_of count width place t) ≡ depth_of count width
unfolding path_of
length-path_of count width place t = length-path (depth_of count width) t (group_of place width)

-- the path's digests are digests of the tree
pub path_of-long : (count width place : ℕ) (t : List (List ℕ)) → Shape count width → place < count → AllLong 32 t
    → length t ≡ tree_size count width → AllLong 32 (path_of count width place t)
unfolding path_of
path_of-long count width place t shape h a n =
    let p : 1 ≤ 2 ^ depth_of count width = pow_pos (depth_of count width) in
    let e : suc (length t) ≡ 2 ^ suc (depth_of count width) = rw n (rw shape.groups (omega arith)) in
    path-long 32 (depth_of count width) t (group_of place width) a e (group_lt count width place shape h)

-- the same law on bytes, as they are lent: build, open, and the root of a path
pub opened-bytes_lead_to-root : (H : List ℕ → List ℕ) (domain : List ℕ) (count width : ℕ) → DigestsLong H
    → Shape count width → (values : List ℕ) (place : ℕ) → place < count
    → root_of_path H domain count width place (group_values width place values)
    (runs 32 (depth_of count width) (flat (path_of count width place (runs 32 (tree_size count width) (flat (tree_of H domain count width values))))))
    ≡ root_of H domain count width values
opened-bytes_lead_to-root H domain count width sized shape values place h =
    let t : List (List ℕ) = tree_of H domain count width values in
    let ss : List (List ℕ) = path_of count width place t in
    let long = path_of-long count width place t shape h (tree_of-long H domain count width sized values) (length-tree_of H domain count width shape values) in
    let e : runs 32 (depth_of count width) (flat ss) ≡ ss = runs_of_flat 32 (depth_of count width) ss (length-path_of count width place t) long in
    let root_from : List (List ℕ) → List ℕ = root_of_path H domain count width place (group_values width place values) in
    ap (λ (l : List (List ℕ)). root_from (runs 32 (depth_of count width) (flat (path_of count width place l))))
    (runs-tree H domain count width sized shape values)
    ∙ ap root_from e
    ∙ path_of_tree_leads_to-root H domain count width shape values place h

-- ---- a tree of one group
module _ (width : ℕ) (filled : 0 < width) where
  pub one_group_depth : depth_of width width ≡ 0
  unfolding depth_of
  one_group_depth = ap log2 (div_self filled) ∙ log2_end 1 (omega arith)

  -- it has an empty path
  pub one_group_path : (place : ℕ) (t : List (List ℕ)) → path_of width width place t ≡ []
  unfolding path_of path
  one_group_path place t = rw one_group_depth

  -- and its root is the leaf digest, not hashed again
  pub one_group_root : (H : List ℕ → List ℕ) (domain values : List ℕ) → length values ≡ width
      → root_of H domain width width values ≡ leaf_digest H domain width width 0 values
  unfolding root_of levels levels_from root leaves leaves_from runs
  one_group_root H domain values n = rw (one_group_depth, div_self filled, take_all width values (omega arith))

  pub one_group_tree : (H : List ℕ → List ℕ) (domain values : List ℕ) → length values ≡ width
      → tree_of H domain width width values ≡ leaf_digest H domain width width 0 values ∷ []
  unfolding tree_of end_to_end levels levels_from leaves leaves_from runs
  one_group_tree H domain values n = rw (one_group_depth, div_self filled, take_all width values (omega arith))
