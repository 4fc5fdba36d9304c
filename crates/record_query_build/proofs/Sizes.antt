-- The levels as they are lent, and the sizes of records as code adds them up.
use Prim.Native.Nat.{ℕ, suc, ◌+◌, ◌-◌, ◌*◌, ◌<◌, ◌≤◌}
use mathlib.Core.Path.{◌≡◌, ap}
use native.Mathlib.Omega.{arith}
use native.Mathlib.Numerals.{add-one}
use Rattle.code_level.proofs.Totals.{level-small, starts_small}
use Rattle.theory_record.specs.declared.WidthSet.{WidthSet}
use Rattle.theory_record.specs.Widths.{Widths, widths_of, widest, level_length, level_width, level_groups, level_depth, total}
use Rattle.theory_record.specs.Sizes.{group_size, level_size, query_size}
use Rattle.theory_record.specs.Build.{level_start, tree_start}
use Rattle.theory_record.proofs.Ranges.{SizesFit, sizes-small}
use Rattle.theory_record.proofs.Widths.{powers, width-most, level-shape, depth_le}
use Rattle.theory_record.proofs.Totals.{total-le}
use Rattle.record_query_build.specs.declared.Level.{Level}
use Rattle.record_query_build.specs.helpers.Levels.{lent_level}
use Rattle.record_query_build.specs.helpers.Sizes.{group_most}

-- ---- a level and the next

pub level-is : (s : Widths) (n k l first tree width depth groups : ℕ) → first ≡ level_start n k l → tree ≡ 32 * tree_start s n k l
    → width ≡ level_width s n k l → depth ≡ level_depth s n k l → groups ≡ level_groups s n k l
    → record { words_at = first; tree_at = tree; width = width; depth = depth; groups = groups } ≡ lent_level s n k l
unfolding lent_level
level-is s n k l first tree width depth groups a b c d e = rw (a, b, c, d, e)

-- a group of level l and its path, and all the levels before l, in a record
pub group_size-le : (set : WidthSet) (n k l : ℕ) → n + k ≤ 24 → group_size (widths_of set) n k l ≤ group_most
unfolding group_size
group_size-le set n k l small =
    omega (arith, width-most set n k l, depth_le (widths_of set) n k l (level-shape (widths_of set) n k l (powers set)))

pub levels-size-le : (set : WidthSet) (n k l : ℕ) → n + k ≤ 24 → total l (level_size (widths_of set) n k) ≤ (48 + 2 * group_most) * l
unfolding level_size
levels-size-le set n k l small =
    total-le (48 + 2 * group_most) l (level_size (widths_of set) n k)
    (λ i h. let z = group_size-le set n k i small in let y = group_size-le set n k (suc i) small in omega arith)

module _ (set : WidthSet) (n k l : ℕ) (x : Level) (z : SizesFit n k) (h : l < n) (ex : x ≡ lent_level (widths_of set) n k l) where
  pub record NextFits : Type 0 where
    pub length_le : level_length n k l ≤ 16777216
    pub first_le : x.words_at ≤ 335544320
    pub tree_le : x.tree_at ≤ 21474836480
    pub groups_some : 0 < x.groups
    pub groups_le : x.groups ≤ 16777216

  pub next_fits : NextFits
  unfolding lent_level
  next_fits =
      let s = starts_small set n k l (sizes-small n k z) in
      let y = level-small set n k l (sizes-small n k z) in
      let a : x.words_at ≡ level_start n k l = ap (λ (v : Level). v.words_at) ex in
      let b : x.tree_at ≡ 32 * tree_start (widths_of set) n k l = ap (λ (v : Level). v.tree_at) ex in
      let c : x.groups ≡ level_groups (widths_of set) n k l = ap (λ (v : Level). v.groups) ex in
      record {
        length_le = y.length_le;
        first_le = omega (arith, z.n_most);
        tree_le = omega (arith, z.n_most);
        groups_some = omega arith;
        groups_le = omega arith;
      }

  pub next-first : (len : ℕ) → len ≡ level_length n k l → x.words_at + len ≡ level_start n k (l + 1)
  unfolding lent_level level_start total
  next-first len e = rw (ex, e, add-one)

  pub next-tree : x.tree_at + 32 * (2 * x.groups - 1) ≡ 32 * tree_start (widths_of set) n k (l + 1)
  unfolding lent_level tree_start total
  next-tree = rw (ex, add-one) (omega (arith, (level-small set n k l (sizes-small n k z)).tree_is))

-- ---- sizes

-- the level count
pub no_levels : (s : Widths) (n k size : ℕ) → size ≡ 4 → size ≡ 4 + total 0 (level_size s n k)
unfolding total
no_levels s n k size e = e

pub size_step : (s : Widths) (n k l size a b : ℕ) → size ≡ 4 + total l (level_size s n k) → a ≡ group_size s n k l → b ≡ group_size s n k (l + 1)
    → size + (48 + a + b) ≡ 4 + total (l + 1) (level_size s n k)
unfolding total level_size
size_step s n k l size a b e f g = rw (e, f, g, add-one) (omega arith)

pub size_is : (s : Widths) (n k l size : ℕ) → size ≡ 4 + total l (level_size s n k) → l ≤ n → n ≤ l → size ≡ query_size s n k
unfolding query_size
size_is s n k l size e h g = let z : l ≡ n = omega arith in rw (e, z)

-- a group of level l and its path
module _ (set : WidthSet) (n k l width depth : ℕ) (ew : width ≡ level_width (widths_of set) n k l) where
  pub width_small : width ≤ widest
  width_small = rw ew (width-most set n k l)

  module _ (ed : depth ≡ level_depth (widths_of set) n k l) where
    pub group_size-is : 8 + 16 * width + 32 * depth ≡ group_size (widths_of set) n k l
    unfolding group_size
    group_size-is = rw (ew, ed)

    pub group_small : n + k ≤ 24 → 8 + 16 * width + 32 * depth ≤ group_most
    group_small small = omega (arith, group_size-is, group_size-le set n k l small)
