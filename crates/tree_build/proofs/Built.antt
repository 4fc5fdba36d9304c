-- A built tree: the leaves, and the levels above them, are the tree of the definition.
use Prim.Native.Nat.{ℕ, ◌+◌, ◌*◌, ◌/◌, ◌^◌}
use mathlib.Core.Path.{◌≡◌, sym, ◌∙◌, ap, ap₂}
use mathlib.Core.List.{List}
use native.Mathlib.Nat.{mul_comm}
use native.Mathlib.Omega.{arith}
use lib.ListN.{length, drop}
use Rattle.theory_laws.specs.Lists.{runs, flat, stored}
use Rattle.theory_laws.proofs.Lists.{runs-flat, length-flat, drop-stored}
use Rattle.theory_merkle.specs.Digests.{DigestsLong}
use Rattle.theory_merkle.specs.Shape.{Shape}
use Rattle.theory_merkle.specs.Tree.{depth_of, tree_size, leaves_from, leaves, levels, levels_from, end_to_end, tree_of}
use Rattle.theory_merkle.proofs.Tree.{length-leaves, leaves-long}
use Rattle.tree_place.specs.helpers.Yes.{BuildYes}
use Rattle.tree_by_fours.specs.helpers.Fours.{GroupsFit}

-- all groups of a tree can be put
pub all-groups : {domain count width values tree : ℕ} → BuildYes domain count width values tree → GroupsFit domain count width 0 (count / width) values tree
all-groups {domain} {count} {width} {values} {tree} y =
    let s = y.shaped.shape in
    record {
      domain_le = y.domain_le;
      shaped = y.shaped;
      within = omega arith;
      values_are = omega (arith, y.values_is, s.whole, ap (λ i. width * i) s.groups, mul_comm width (2 ^ depth_of count width));
      room = omega (arith, y.tree_is, s.some);
    }

module _ (H : List ℕ → List ℕ) (sized : DigestsLong H) (domain : List ℕ) (count width : ℕ) (shape : Shape count width)
    (values tree t1 : List ℕ) (tree_long : length tree ≡ 32 * tree_size count width)
    (wrote : t1 ≡ stored tree 0 (flat (leaves_from H domain count width 0 (runs width (count / width) values)))) where
  -- the leaves read back
  leaves-there : runs 32 (count / width) t1 ≡ leaves H domain count width values
  unfolding leaves
  leaves-there =
      let ds : List (List ℕ) = leaves H domain count width values in
      let long = leaves-long H domain count width sized values in
      let n : length ds ≡ count / width = length-leaves H domain count width values in
      let l : length (flat ds) ≡ 32 * length ds = length-flat 32 ds long in
      ap₂ (λ (i : ℕ) (t : List ℕ). runs 32 i t) (sym n) (wrote ∙ drop-stored tree 0 (flat ds) (omega (arith, shape.some)))
      ∙ runs-flat 32 ds (drop (0 + length (flat ds)) tree) long

  pub built : (depth : ℕ) (t2 : List ℕ) → depth ≡ depth_of count width
      → t2 ≡ flat (end_to_end (levels_from H domain depth 0 (runs 32 (count / width) t1))) → t2 ≡ flat (tree_of H domain count width values)
  unfolding tree_of levels
  built depth t2 d e = e ∙ ap₂ (λ (h : ℕ) (ds : List (List ℕ)). flat (end_to_end (levels_from H domain h 0 ds))) d leaves-there
