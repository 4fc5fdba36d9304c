-- The levels of a query record by where their parts stand in what is lent: they are the levels that are built, and stand within it.
use Prim.Native.Nat.{ℕ, suc, ◌+◌, ◌*◌, ◌^◌, ◌<◌, ◌≤◌}
use mathlib.Core.Path.{◌≡◌}
use mathlib.Core.List.{List}
use native.Mathlib.Omega.{arith}
use native.Mathlib.Numerals.{add-one}
use lib.ListN.{length}
use Rattle.theory_laws.specs.Table.{at}
use Rattle.theory_merkle.specs.Tree.{group_of}
use Rattle.theory_merkle.proofs.Sizes.{group_lt}
use Rattle.theory_record.specs.declared.WidthSet.{WidthSet}
use Rattle.theory_record.specs.Widths.{Widths, widths_of, level_length, level_width, level_groups, level_depth, tree_length, total}
use Rattle.theory_record.specs.Trees.{group_at, path_at}
use Rattle.theory_record.specs.Sizes.{group_size, level_size, query_size}
use Rattle.theory_record.specs.Query.{pair_of}
use Rattle.theory_record.specs.Build.{tree_start, level_values, level_tree, open_pair, built_level}
use Rattle.theory_record.proofs.Ranges.{sizes-small}
use Rattle.theory_record.proofs.Widths.{PowersOfTwo, powers, width-most, level-shape, width-pos, groups_by_depth}
use Rattle.theory_record.proofs.Totals.{total-within}
use Rattle.theory_record.proofs.Offsets.{level-within, tree-within, value_lent, values-lent, pair_lt, b_lt}
use Rattle.theory_record.proofs.Build.{group_within}
use Rattle.theory_record.proofs.BuildAllowed.{QueryBuild}
use Rattle.record_writer.proofs.Runs.{path_of_digests}
use Rattle.record_query_build.specs.declared.Level.{Level}
use Rattle.record_query_build.specs.helpers.Levels.{lent_level, values_lent, path_lent, open_lent, ValuesThere, PathThere, Room}
use Rattle.code_level.proofs.Totals.{level-small}

-- ---- what is put is the level that is built

module _ (s : Widths) (p : PowersOfTwo s) (n k : ℕ) (ws ts : List ℕ) (l place : ℕ) (low : place < level_length n k l) where
  value-is : at (level_values n k ws l) place ≡ at ws ((lent_level s n k l).words_at + place)
  unfolding lent_level
  value-is = value_lent n k l place ws low

  values_are : group_at (level_width s n k l) place (level_values n k ws l) ≡ values_lent ws (lent_level s n k l) place
  unfolding group_at values_lent lent_level
  values_are =
      values-lent n k l (level_width s n k l * group_of place (level_width s n k l)) ws (level_width s n k l)
      (group_within (level_length n k l) (level_width s n k l) place (level-shape s n k l p).tree low)

  path-is : path_at s n k l place (level_tree s n k ts l) ≡ path_lent ts (lent_level s n k l) place
  unfolding path_at level_tree path_lent lent_level tree_length level_depth level_groups
  path-is = path_of_digests (level_length n k l) (level_width s n k l) place (tree_start s n k l) ts

plus_one : (i j : ℕ) → i + (j + 1) ≡ i + j + 1
plus_one i j = omega arith

pub built-is : (s : Widths) (p : PowersOfTwo s) (n k : ℕ) (ws ts : List ℕ) (position l : ℕ) → position < 2 ^ (n + k) → l < n + k
    → built_level s n k ws ts position l ≡ open_lent ws ts (lent_level s n k l) (lent_level s n k (suc l)) (pair_of position l)
unfolding built_level open_pair open_lent
built-is s p n k ws ts position l low h =
    let q : ℕ = pair_of position l in
    let c = pair_lt n k l position low h in
    let b = b_lt n k l position low h in
    let a : 2 * q < level_length n k l = omega arith in
    rw (
      value-is s p n k ws ts l (2 * q) a,
      value-is s p n k ws ts l (2 * q + 1) b,
      value-is s p n k ws ts (suc l) q c,
      values_are s p n k ws ts l (2 * q) a,
      values_are s p n k ws ts (suc l) q c,
      path-is s p n k ws ts l (2 * q) a,
      path-is s p n k ws ts (suc l) q c,
      plus_one (lent_level s n k l).words_at (2 * q),
    )

-- ---- what is put stands in what is lent

module _ (set : WidthSet) {n k : ℕ} {levels trees : List ℕ} {position : ℕ} {out : List ℕ} (t : QueryBuild (widths_of set) n k levels trees position out) where
  abbrev s : Widths
  s = widths_of set

  module _ (l place : ℕ) (h : l ≤ n) (low : place < level_length n k l) where
    values-there : ValuesThere (length levels) (lent_level s n k l) place
    unfolding lent_level
    values-there =
        let z = level-shape s n k l (powers set) in
        record {
          filled = width-pos s n k l z;
          width-le = width-most set n k l;
          values-there =
              omega (arith, t.levels_long, level-within n k l h, group_within (level_length n k l) (level_width s n k l) place z.tree low);
        }

    path-there : PathThere (length trees) (lent_level s n k l) place
    unfolding lent_level level_depth
    path-there =
        let z = level-shape s n k l (powers set) in
        let y = level-small set n k l (sizes-small n k t.sizes) in
        record {
          filled = width-pos s n k l z;
          groups_are = groups_by_depth s n k l z;
          groups_le = y.groups_le;
          group_lt = rw (groups_by_depth s n k l z) (group_lt (level_length n k l) (level_width s n k l) place z.tree low);
          tree_there = omega (arith, t.trees_long, tree-within s n k l h);
        }

  room : (l : ℕ) → l < n
      → Room (length out) (4 + total l (level_size s n k)) (length levels) (length trees) (lent_level s n k l) (lent_level s n k (suc l)) (pair_of position l)
  unfolding lent_level query_size level_size group_size
  room l h =
      let q : ℕ = pair_of position l in
      let c = pair_lt n k l position t.position_low (omega arith) in
      let b = b_lt n k l position t.position_low (omega arith) in
      record {
        pair_there = omega (arith, t.levels_long, level-within n k l (omega arith));
        c_there = omega (arith, t.levels_long, level-within n k (suc l) h);
        pair_small = omega (arith, level-small set n k (suc l) (sizes-small n k t.sizes));
        a_values = values-there l (2 * q) (omega arith) (omega arith);
        c_values = values-there (suc l) q h c;
        a_path_there = path-there l (2 * q) (omega arith) (omega arith);
        c_path_there = path-there (suc l) q h c;
        fits = omega (arith, t.out_long, total-within n l (level_size s n k) h);
      }

  pub level-room : (l : ℕ) {from len : ℕ} {x y : Level} {q : ℕ} → l < n → x ≡ lent_level s n k l → y ≡ lent_level s n k (l + 1) → q ≡ pair_of position l
      → from ≡ 4 + total l (level_size s n k) → len ≡ length out → Room len from (length levels) (length trees) x y q
  level-room l h ex ey eq ef el = rw (ex, ey, eq, ef, el, add-one) (room l h)
