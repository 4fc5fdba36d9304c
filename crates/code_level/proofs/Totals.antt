-- The sizes of levels and trees as code adds them up, and that they are small.
use Prim.Native.Nat.{ℕ, suc, ◌+◌, ◌-◌, ◌*◌, ◌^◌, ◌<◌, ◌≤◌}
use mathlib.Core.Path.{◌≡◌, refl}
use native.Mathlib.Omega.{arith}
use native.Mathlib.Nat.{le-mul_of_pos_right}
use native.Mathlib.Numerals.{add-one}
use lib.Pow.{pow_mono}
use Rattle.theory_record.specs.declared.WidthSet.{WidthSet}
use Rattle.theory_record.specs.Widths.{widths_of, level_length, level_width, level_groups, tree_length, total}
use Rattle.theory_record.specs.Build.{level_start, levels_length, tree_start}
use Rattle.theory_record.proofs.Ranges.{SizesFit, sizes-small}
use Rattle.theory_record.proofs.Widths.{powers, level-shape, width-pos, groups-pos, groups-times-width}
use Rattle.theory_record.proofs.Totals.{total-le}
use Rattle.theory_record.proofs.Offsets.{level-le, levels-twice}

-- ---- one level

pub length-small : (n k l : ℕ) → n + k ≤ 24 → level_length n k l ≤ 16777216
length-small n k l small = let size : 2 ^ (n + k) ≤ 2 ^ 24 = pow_mono {i = n + k} {j = 24} small in omega (arith, level-le n k l)

pub record Small (set : WidthSet) (n k l : ℕ) : Type 0 where
  pub length_le : level_length n k l ≤ 16777216
  pub groups_some : 0 < level_groups (widths_of set) n k l
  pub groups_le : level_groups (widths_of set) n k l ≤ 16777216
  pub tree_is : tree_length (widths_of set) n k l ≡ 2 * level_groups (widths_of set) n k l - 1

pub level-small : (set : WidthSet) (n k l : ℕ) → n + k ≤ 24 → Small set n k l
unfolding tree_length level_groups
level-small set n k l small =
    let z = level-shape (widths_of set) n k l (powers set) in
    let m : ℕ = level_groups (widths_of set) n k l in
    let few : m ≤ m * level_width (widths_of set) n k l = le-mul_of_pos_right m (width-pos (widths_of set) n k l z) in
    let len = length-small n k l small in
    record {
      length_le = len;
      groups_some = groups-pos (widths_of set) n k l z;
      groups_le = omega (arith, groups-times-width (widths_of set) n k l z);
      tree_is = refl;
    }

-- all the starts are small
pub record Starts (set : WidthSet) (n k l : ℕ) : Type 0 where
  pub first_le : level_start n k l ≤ 16777216 * l
  pub tree_le : tree_start (widths_of set) n k l ≤ 33554432 * l

pub starts_small : (set : WidthSet) (n k l : ℕ) → n + k ≤ 24 → Starts set n k l
unfolding level_start tree_start
starts_small set n k l small =
    record {
      first_le = total-le 16777216 l (level_length n k) (λ i h. length-small n k i small);
      tree_le = total-le 33554432 l (tree_length (widths_of set) n k) (λ i h. let z = level-small set n k i small in omega arith);
    }

-- ---- all levels, and all trees

pub record LevelsFit (n k : ℕ) : Type 0 where
  pub first_le : level_length n k 0 ≤ 16777216
  pub last_le : level_length n k n ≤ 2 * level_length n k 0
  pub all_le : levels_length n k ≤ 33554432

pub levels_fit : (n k : ℕ) → SizesFit n k → LevelsFit n k
levels_fit n k z =
    let e = levels-twice n k in
    let y = length-small n k 0 (sizes-small n k z) in
    record { first_le = y; last_le = omega arith; all_le = omega arith }

pub levels_are : (n k first last : ℕ) → first ≡ level_length n k 0 → last ≡ level_length n k n → 2 * first - last ≡ levels_length n k
levels_are n k first last a b = rw (a, b) (omega (arith, levels-twice n k))

pub no_digests : (set : WidthSet) (n k : ℕ) → 0 ≡ tree_start (widths_of set) n k 0
unfolding tree_start total
no_digests set n k = refl

pub digests-step : (set : WidthSet) (n k l d g : ℕ)
    → d ≡ tree_start (widths_of set) n k l → g ≡ level_groups (widths_of set) n k l → n + k ≤ 24 → d + (2 * g - 1) ≡ tree_start (widths_of set) n k (l + 1)
unfolding tree_start total
digests-step set n k l d g e f small = rw (e, f, add-one) (omega (arith, (level-small set n k l small).tree_is))

pub trees_are : (set : WidthSet) (n k l d : ℕ) → d ≡ tree_start (widths_of set) n k l → l ≤ n + 1 → n + 1 ≤ l → 32 * d ≡ 32 * tree_start (widths_of set) n k (suc n)
trees_are set n k l d e h g = let z : l ≡ suc n = omega arith in rw (e, z)
