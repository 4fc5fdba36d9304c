-- The levels' arithmetic, over a threshold and a width that are powers of two, the width at least 2 and at most the threshold: lengths,
-- widths and group counts are powers of two, and a pair never straddles two groups.
use Prim.Native.Nat.{ℕ, zero, suc, ◌+◌, ◌-◌, ◌*◌, ◌/◌, ◌%◌, ◌^◌, ◌<◌, ◌≤◌}
use mathlib.Core.Path.{◌≡◌, refl, sym, ◌∙◌, ap}
use mathlib.Core.Bool.{Bool, true, false}
use native.Mathlib.Omega.{arith}
use native.Mathlib.Nat.{mul-le-mul_right, mod-lt, div-add-mod'}
use borrow.Author.Tests.{le-leb, lt-leb, leb-true, leb-false, eqb-true}
use lib.Dec.{leb, eqb}
use lib.Pow.{pow_pos, pow_mono, pow-lt, pow-add, shl-shr}
use lib.Arith.{digits_div, digits_mod}
use Rattle.theory_laws.specs.Questions.{pick, both}
use Rattle.theory_laws.proofs.Lists.{both_true}
use Rattle.theory_merkle.specs.Tree.{group_of, halvings, log2, depth_of}
use Rattle.theory_merkle.specs.Shape.{Shape}
use Rattle.theory_merkle.proofs.Sizes.{shape-pow, log2-pow}
use Rattle.theory_record.specs.Widths.{Widths, widths_of, widest, width_for, level_length, level_width, level_groups, level_depth}
use Rattle.theory_record.specs.declared.WidthSet.{WidthSet}

-- ---- widths

-- a set of widths that are powers of two, by their exponents
pub record PowersOfTwo (s : Widths) : Type 0 where
  pub threshold_log : ℕ
  pub width_log : ℕ
  pub threshold_is : s.threshold ≡ 2 ^ threshold_log
  pub width_is : s.width ≡ 2 ^ width_log
  pub at_least_two : 1 ≤ width_log
  pub at_most_threshold : width_log ≤ threshold_log

-- the test of a set: both numbers are powers of two, the width is at least 2 and at most the threshold
abbrev pub powers_test : Widths → Bool
powers_test s =
    let t = log2 s.threshold in
    let w = log2 s.width in
    both (eqb s.threshold (2 ^ t)) (both (eqb s.width (2 ^ w)) (both (leb 1 w) (leb w t)))

unfoldable pub tested_powers : (s : Widths) → powers_test s ≡ true → PowersOfTwo s
tested_powers s e =
    let t : ℕ = log2 s.threshold in
    let w : ℕ = log2 s.width in
    let a = both_true _ _ e in
    let b = both_true _ _ a.1 in
    let c = both_true _ _ b.1 in
    record {
      threshold_log = t;
      width_log = w;
      threshold_is = eqb-true _ _ a.0;
      width_is = eqb-true _ _ b.0;
      at_least_two = leb-true 1 w c.0;
      at_most_threshold = leb-true w t c.1;
    }

-- the two sets pass it
pub sets_pass : (set : WidthSet) → powers_test (widths_of set) ≡ true
unfolding widths_of log2 halvings
sets_pass WidthSet.Present = refl
sets_pass WidthSet.Wide = refl

unfoldable pub powers : (set : WidthSet) → PowersOfTwo (widths_of set)
powers set = tested_powers (widths_of set) (sets_pass set)

-- and none is wider than the widest
pub narrow : (set : WidthSet) → (widths_of set).width ≤ widest
unfolding widths_of
narrow WidthSet.Present = omega arith
narrow WidthSet.Wide = omega arith

-- the small values of SPECIFICATION 12.1: widths of lengths 1, 2, 8, 16 under the present set, and of 2, 32, 64 under the wide one
abbrev present_width : ℕ → ℕ
present_width = width_for (widths_of WidthSet.Present)

abbrev wide_width : ℕ → ℕ
wide_width = width_for (widths_of WidthSet.Wide)

pub small_widths : ((present_width 1 ≡ 1) × (present_width 2 ≡ 2) × (present_width 8 ≡ 2) × (present_width 16 ≡ 8))
    × ((wide_width 1 ≡ 1) × (wide_width 2 ≡ 2) × (wide_width 32 ≡ 2) × (wide_width 64 ≡ 32))
unfolding width_for widths_of
small_widths = ((refl, refl, refl, refl), (refl, refl, refl, refl))

pub leb_pow : (i m : ℕ) → leb (2 ^ i) (2 ^ m) ≡ leb i m
leb_pow i m = go (leb i m) refl
  where
    go : (t : Bool) → leb i m ≡ t → leb (2 ^ i) (2 ^ m) ≡ t
    go true e = le-leb (2 ^ i) (2 ^ m) (pow_mono (leb-true i m e))
    go false e = lt-leb (2 ^ i) (2 ^ m) (pow-lt (leb-false i m e))

-- the exponent of the width of a tree over 2^m values
abbrev pub width_log_at : {s : Widths} → PowersOfTwo s → ℕ → ℕ
width_log_at p m = pick (leb p.threshold_log m) p.width_log (pick (leb 1 m) 1 0)

module _ (s : Widths) (p : PowersOfTwo s) (m : ℕ) where
  pub width_power : width_for s (2 ^ m) ≡ 2 ^ width_log_at p m
  unfolding width_for
  width_power = rw (p.threshold_is, p.width_is, leb_pow p.threshold_log m, leb_pow 1 m) (go (leb p.threshold_log m) (leb 1 m))
    where
      go : (wide two : Bool) → pick wide (2 ^ p.width_log) (pick two 2 1) ≡ 2 ^ pick wide p.width_log (pick two 1 0)
      go true two = refl
      go false true = refl
      go false false = refl

  pub width_log_le : width_log_at p m ≤ m
  width_log_le = go (leb p.threshold_log m) (leb 1 m) refl refl
    where
      go : (wide two : Bool) → leb p.threshold_log m ≡ wide → leb 1 m ≡ two → pick wide p.width_log (pick two 1 0) ≤ m
      go true two e f = let h = leb-true p.threshold_log m e in omega (arith, p.at_most_threshold)
      go false true e f = leb-true 1 m f
      go false false e f = omega arith

  pub width_log_pos : 1 ≤ m → 1 ≤ width_log_at p m
  width_log_pos h = rw (le-leb 1 m h) (go (leb p.threshold_log m))
    where
      go : (wide : Bool) → 1 ≤ pick wide p.width_log 1
      go true = p.at_least_two
      go false = omega arith

-- ---- levels

-- a level's width is at most the set's
pub level-width-le : (s : Widths) → PowersOfTwo s → (n k l : ℕ) → level_width s n k l ≤ s.width
unfolding level_width width_for
level-width-le s p n k l = go (leb s.threshold (level_length n k l)) (leb 2 (level_length n k l))
  where
    two : 2 ≤ s.width
    two = rw p.width_is (pow_mono {i = 1} {j = p.width_log} p.at_least_two)

    go : (wide pair : Bool) → pick wide s.width (pick pair 2 1) ≤ s.width
    go true pair = omega arith
    go false true = two
    go false false = omega (arith, two)

pub width-most : (set : WidthSet) (n k l : ℕ) → level_width (widths_of set) n k l ≤ widest
width-most set n k l = omega (arith, level-width-le (widths_of set) (powers set) n k l, narrow set)

-- width and depth of level l by exponents, of which n + k - l is that of its length
module _ (s : Widths) (p : PowersOfTwo s) (n k l : ℕ) where
  pub width_by_exponent : level_width s n k l ≡ 2 ^ width_log_at p (n + k - l)
  unfolding level_width level_length
  width_by_exponent = width_power s p (n + k - l)

  pub length_by_exponents : level_length n k l ≡ 2 ^ (n + k - l - width_log_at p (n + k - l)) * 2 ^ width_log_at p (n + k - l)
  unfolding level_length
  length_by_exponents =
      let e : n + k - l ≡ n + k - l - width_log_at p (n + k - l) + width_log_at p (n + k - l) = omega (arith, width_log_le s p (n + k - l)) in
      ap (λ (i : ℕ). 2 ^ i) e ∙ pow-add 2 (n + k - l - width_log_at p (n + k - l)) (width_log_at p (n + k - l))

  pub depth_by_exponent : level_depth s n k l ≡ n + k - l - width_log_at p (n + k - l)
  unfolding level_depth depth_of
  depth_by_exponent =
      ap log2 (rw (width_by_exponent, length_by_exponents) (shl-shr (2 ^ (n + k - l - width_log_at p (n + k - l))) (width_log_at p (n + k - l))))
      ∙ log2-pow (n + k - l - width_log_at p (n + k - l))

-- the shape of level l: a group has 2^widthLog values, there are 2^depth groups, and a path has depth digests
pub record LevelShape (s : Widths) (n k l : ℕ) : Type 0 where
  pub width_log : ℕ
  pub depth : ℕ
  pub exponents : depth + width_log ≡ n + k - l
  pub length_is : level_length n k l ≡ 2 ^ depth * 2 ^ width_log
  pub width_is : level_width s n k l ≡ 2 ^ width_log
  pub depth_is : level_depth s n k l ≡ depth
  -- every level of at least two values has an even width
  pub even : l < n + k → 1 ≤ width_log
  -- the shape of its tree
  pub tree : Shape (level_length n k l) (level_width s n k l)

pub level-shape : (s : Widths) (n k l : ℕ) → PowersOfTwo s → LevelShape s n k l
level-shape s n k l p =
    let w : ℕ = width_log_at p (n + k - l) in
    let d : ℕ = n + k - l - w in
    let len : level_length n k l ≡ 2 ^ d * 2 ^ w = length_by_exponents s p n k l in
    let wide : level_width s n k l ≡ 2 ^ w = width_by_exponent s p n k l in
    record {
      width_log = w;
      depth = d;
      exponents = omega (arith, width_log_le s p (n + k - l));
      length_is = len;
      width_is = wide;
      depth_is = depth_by_exponent s p n k l;
      even = λ h. width_log_pos s p (n + k - l) (omega arith);
      tree = shape-pow d w (level_length n k l) (level_width s n k l) len wide;
    }

-- what a shape says without exponents
module _ (s : Widths) (n k l : ℕ) (z : LevelShape s n k l) where
  pub width-pos : 0 < level_width s n k l
  width-pos = z.tree.filled

  -- depth is log2 of the group count
  pub groups_by_depth : level_groups s n k l ≡ 2 ^ level_depth s n k l
  unfolding level_groups level_depth
  groups_by_depth = z.tree.groups

  pub groups-pos : 0 < level_groups s n k l
  groups-pos = rw groups_by_depth (pow_pos (level_depth s n k l))

  -- the width divides the length
  pub groups-times-width : level_groups s n k l * level_width s n k l ≡ level_length n k l
  unfolding level_groups level_depth
  groups-times-width = rw groups_by_depth (sym z.tree.whole)

  pub depth_le : level_depth s n k l ≤ n + k
  depth_le = rw z.depth_is (omega (arith, z.exponents))

  pub width-le : level_width s n k l ≤ level_length n k l
  width-le = rw (z.width_is, z.length_is) (omega (arith, mul-le-mul_right (2 ^ z.width_log) (pow_pos z.depth)))

  -- a width of at least 2 is even
  pub width-even : l < n + k → level_width s n k l ≡ 2 * (level_width s n k l / 2)
  width-even h = rw z.width_is (even_power z.width_log (z.even h))
    where
      even_power : (i : ℕ) → 1 ≤ i → 2 ^ i ≡ 2 * (2 ^ i / 2)
      even_power zero g = absurd (omega arith)
      even_power (suc i) g = omega arith

-- ---- a pair in a group of even width: both are in one group (SPECIFICATION 8.6), and b stands behind a

split-place : (w x g r : ℕ) → x ≡ g * w + r → r < w → (x / w ≡ g) × (x % w ≡ r)
split-place w x g r e h = rw e (digits_div g h, digits_mod g h)

module _ (w q : ℕ) (pos : 0 < w) (even : w ≡ 2 * (w / 2)) where
  -- 2q is q / (w/2) groups and 2 (q % (w/2)) places
  pair-at : (b : ℕ) → b < 2 → ((2 * q + b) / w ≡ q / (w / 2)) × ((2 * q + b) % w ≡ 2 * (q % (w / 2)) + b)
  pair-at b h =
      let e = div-add-mod' q (w / 2) in
      let m : q % (w / 2) < w / 2 = mod-lt q (omega arith) in
      let f : q / (w / 2) * w ≡ 2 * (q / (w / 2) * (w / 2)) = ap (λ (x : ℕ). q / (w / 2) * x) even ∙ omega arith in
      split-place w (2 * q + b) (q / (w / 2)) (2 * (q % (w / 2)) + b) (omega arith) (omega arith)

  first-at : (2 * q / w ≡ q / (w / 2)) × (2 * q % w ≡ 2 * (q % (w / 2)))
  first-at =
      let a = pair-at 0 (omega arith) in
      let e : 2 * q + 0 ≡ 2 * q = omega arith in
      let f : 2 * (q % (w / 2)) + 0 ≡ 2 * (q % (w / 2)) = omega arith in
      rw (e, f) at a

  pub pair_group : group_of (2 * q + 1) w ≡ group_of (2 * q) w
  pair_group = (pair-at 1 (omega arith)).0 ∙ sym first-at.0

  pub pair_place : (2 * q + 1) % w ≡ suc (2 * q % w)
  pair_place = (pair-at 1 (omega arith)).1 ∙ omega (arith, first-at.1)
