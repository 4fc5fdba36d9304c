-- The groups of a tail record, put one after the other.
use Prim.Native.Nat.{ℕ, zero, suc, ◌+◌, ◌-◌, ◌*◌, ◌/◌, ◌<◌, ◌≤◌}
use mathlib.Core.Path.{◌≡◌, refl, sym, ◌∙◌, ap, ap₂}
use mathlib.Core.List.{List, [], ◌++◌, map, append_assoc}
use native.Mathlib.Omega.{arith}
use native.Mathlib.Numerals.{add-one}
use native.Mathlib.Nat.{mul_comm, mul-div_cancel, mul-le-mul_right}
use lib.ListN.{length, drop, length-map}
use Rattle.theory_laws.specs.Lists.{part, runs, flat, stored, le_bytes}
use Rattle.theory_laws.proofs.Lists.{stored-nil, stored-append, length_part, runs-take}
use Rattle.theory_merkle.specs.Tree.{path_of}
use Rattle.theory_merkle.proofs.Levels.{length-path}
use Rattle.bytes_numbers.specs.helpers.Put.{Put}
use Rattle.bytes_numbers.proofs.Stores.{then_put, same_put}
use Rattle.theory_record.specs.Widths.{Widths, level_length, level_width, level_groups, level_depth, tree_length}
use Rattle.theory_record.specs.Trees.{group_at, path_at}
use Rattle.theory_record.specs.Format.{tail_form, tail_group_bytes, run_bytes, items_bytes, record_bytes}
use Rattle.theory_record.specs.Build.{digests, open_group, open_groups, tail_bytes}
use Rattle.theory_record.proofs.Widths.{PowersOfTwo, level-shape, width-pos, groups-times-width}
use Rattle.theory_record.proofs.Build.{length-open_groups}
use Rattle.theory_field.specs.Words.{words}
use Rattle.tree_walk.specs.helpers.Paths.{path_from}
use Rattle.record_tail_build.specs.helpers.Groups.{opening_size, group_bytes, GroupPut}

pub group_put : {o : List ℕ} {from : ℕ} (level tree : List ℕ) (width depth groups g first : ℕ) {o1 o2 o3 o4 : List ℕ} {a b c r : ℕ}
    → first ≡ g * width → Put o from 4 (le_bytes 4 width) o1 a
    → Put o1 a (16 * width) (flat (map (le_bytes 16) (part width first (words level)))) o2 b → Put o2 b 4 (le_bytes 4 depth) o3 c
    → Put o3 c (32 * depth) (flat (path_from depth tree 0 groups g)) o4 r → GroupPut o from level tree width depth groups g o4 r
unfolding group_bytes
group_put {o} {from} level tree width depth groups g first {o1} {o2} {o3} {o4} {a} {b} {c} {r} e p q s t =
    same_put o from _ (opening_size width depth) _ (group_bytes (words level) tree width depth groups g) o4 r (omega arith) refl
    (then_put o from _ _ o3 c _ _ o4 r (then_put o from _ _ o2 b _ _ o3 c (then_put o from _ _ o1 a _ _ o2 b p (rw e at q)) s) t)

-- c groups from g on
unfoldable pub groups_bytes : List ℕ → List ℕ → ℕ → ℕ → ℕ → ℕ → ℕ → List ℕ
groups_bytes values tree width depth groups zero g = []
groups_bytes values tree width depth groups (suc c) g = group_bytes values tree width depth groups g ++ groups_bytes values tree width depth groups c (suc g)

-- what is left to store, from group g on
unfoldable pub groups_left : List ℕ → ℕ → List ℕ → List ℕ → ℕ → ℕ → ℕ → ℕ → List ℕ
groups_left out at values tree width depth groups g = stored out at (groups_bytes values tree width depth groups (groups - g) g)

pub groups-step : {out : List ℕ} {at : ℕ} (values tree : List ℕ) (width depth groups g : ℕ) {r out' : List ℕ} {k m : ℕ}
    → groups_left out at values tree width depth groups g ≡ r → Put out at m (group_bytes values tree width depth groups g) out' k → g < groups
    → groups_left out' k values tree width depth groups (g + 1) ≡ r
unfolding groups_left groups_bytes
groups-step {out} {at} values tree width depth groups g {r} {out'} {k} {m} e p h =
    let z : groups - g ≡ suc (groups - suc g) = omega arith in
    let x : k ≡ at + length (group_bytes values tree width depth groups g) = p.end ∙ ap (λ j. at + j) (sym p.size) in
    rw (add-one, x, p.bytes, ← stored-append out at (group_bytes values tree width depth groups g)) (rw z at e)

pub groups_end : (out : List ℕ) (at : ℕ) (values tree : List ℕ) (width depth groups g : ℕ) (r : List ℕ) → groups_left out at values tree width depth groups g ≡ r
    → groups ≤ g → out ≡ r
unfolding groups_left groups_bytes
groups_end out at values tree width depth groups g r e h =
    let z : groups - g ≡ 0 = omega arith in
    rw (z, stored-nil) at e

-- ---- the last level's groups

module _ (s : Widths) (p : PowersOfTwo s) (n k : ℕ) (small : n + k ≤ 24) (values tree : List ℕ) (long : length values ≡ level_length n k n) where
  width : ℕ
  width = level_width s n k n

  depth : ℕ
  depth = level_depth s n k n

  groups : ℕ
  groups = level_groups s n k n

  tree-read : digests (tree_length s n k n) 0 tree ≡ runs 32 (2 * groups - 1) (drop 0 tree)
  unfolding digests tree_length level_groups groups part
  tree-read = runs-take 32 (tree_length s n k n) tree

  one_group : (g : ℕ) → g < groups
      → tail_group_bytes (open_group s n k values (digests (tree_length s n k n) 0 tree) g) ≡ group_bytes values tree width depth groups g
  unfolding tail_group_bytes open_group group_bytes run_bytes group_at path_at path_of path_from width depth groups level_depth
  one_group g h =
      let z = level-shape s n k n p in
      let pos : 0 < level_width s n k n = width-pos s n k n z in
      let m : g * level_width s n k n / level_width s n k n ≡ g = mul-div_cancel g pos in
      let c : level_width s n k n * g ≡ g * level_width s n k n = mul_comm (level_width s n k n) g in
      let t = groups-times-width s n k n z in
      let within : suc g * level_width s n k n ≤ level_groups s n k n * level_width s n k n = mul-le-mul_right (level_width s n k n) h in
      let len : length (part (level_width s n k n) (g * level_width s n k n) values) ≡ level_width s n k n =
      length_part (level_width s n k n) (g * level_width s n k n) values (omega arith) in
      rw (m, c, length-map, len, tree-read, length-path) (simp append_assoc)

  all-groups : (c g : ℕ) → g + c ≤ groups
      → items_bytes tail_form (open_groups s n k values (digests (tree_length s n k n) 0 tree) c g) ≡ groups_bytes values tree width depth groups c g
  unfolding items_bytes open_groups groups_bytes
  all-groups zero g h = refl
  all-groups (suc c) g h = ap₂ (λ (x y : List ℕ). x ++ y) (one_group g (omega arith)) (all-groups c (suc g) (omega arith))

  pub tail-bytes : tail_bytes s n k values tree
      ≡ le_bytes 4 (level_groups s n k n)
      ++ groups_bytes values tree (level_width s n k n) (level_depth s n k n) (level_groups s n k n) (level_groups s n k n) 0
  unfolding tail_bytes record_bytes width depth groups
  tail-bytes =
      rw (length-open_groups s n k values (digests (tree_length s n k n) 0 tree) (level_groups s n k n) 0)
      (ap (λ (x : List ℕ). le_bytes 4 (level_groups s n k n) ++ x) (all-groups (level_groups s n k n) 0 (omega arith)))
