-- Building a level's tree: its sizes, and that every question put to it has its yes. Rests on the levels' widths and the questions of trees.
use Prim.Native.Nat.{ℕ, ◌+◌, ◌-◌, ◌*◌, ◌%◌, ◌^◌, ◌≤◌, ◌<◌}
use mathlib.Core.Path.{◌≡◌, refl, sym, ◌∙◌, ap}
use native.Mathlib.Omega.{arith}
use borrow.Author.Tests.{le-leb, leb-true, eq-eqb}
use lib.Arith.{digits_mod}
use lib.Pow.{pow_mono}
use Rattle.theory_laws.proofs.Questions.{yes_all}
use Rattle.theory_merkle.specs.Numbers.{build_number}
use Rattle.theory_merkle.specs.Questions.{build_questions}
use Rattle.theory_merkle.proofs.Sizes.{Power, is_pow_holds}
use Rattle.theory_record.specs.Widths.{Widths, level_length, level_width, level_groups, level_depth, tree_length}
use Rattle.theory_record.proofs.Widths.{PowersOfTwo, leb_pow, width_log_at, width_by_exponent, level-width-le, level-shape, width-pos}
use Rattle.theory_record.proofs.Widths.{groups-times-width, groups-pos, groups_by_depth, depth_le}

-- an exponent of a power of two up to 512
exponent-le : (x e : ℕ) → x ≡ 2 ^ e → x ≤ 512 → e ≤ 9
exponent-le x e p h = leb-true e 9 (sym (leb_pow e 9) ∙ le-leb (2 ^ e) (2 ^ 9) (omega arith))

module _ (s : Widths) (p : PowersOfTwo s) (n k l : ℕ) where
  -- where the set's width is at most 512, as a tree asks, so is the level's
  width_power : s.width ≤ 512 → Power 9 (level_width s n k l)
  width_power h =
      let is : level_width s n k l ≡ 2 ^ width_log_at p (n + k - l) = width_by_exponent s p n k l in
      record { exponent = width_log_at p (n + k - l); within = exponent-le _ _ is (omega (arith, level-width-le s p n k l)); is = is }

  length_power : n + k ≤ 24 → Power 24 (level_length n k l)
  unfolding level_length
  length_power h = record { exponent = n + k - l; within = omega arith; is = refl }

  -- it divides the length
  width-divides : level_length n k l % level_width s n k l ≡ 0
  width-divides =
      let z = level-shape s n k l p in
      let w : ℕ = level_width s n k l in
      let g : ℕ = level_groups s n k l in
      let e : level_length n k l ≡ g * w + 0 = sym (groups-times-width s n k l z) ∙ omega arith in
      ap (λ (x : ℕ). x % w) e ∙ digits_mod g (width-pos s n k l z)

  pub tree-bytes : (groups : ℕ) → groups ≡ level_groups s n k l → 32 * (2 * groups - 1) ≡ 32 * tree_length s n k l
  unfolding tree_length level_groups
  tree-bytes groups e = ap (λ (g : ℕ). 32 * (2 * g - 1)) e

  -- there is a group, and not more groups than values
  pub groups_some : (groups : ℕ) → n + k ≤ 24 → groups ≡ level_groups s n k l → (0 < groups) × (groups ≤ 16777216)
  groups_some groups h e =
      let z = level-shape s n k l p in
      let d : 2 ^ level_depth s n k l ≤ 2 ^ 24 = pow_mono {i = level_depth s n k l} {j = 24} (omega (arith, depth_le s n k l z)) in
      (omega (arith, groups-pos s n k l z), omega (arith, groups_by_depth s n k l z))

  -- 7 to 10, and 5: building it is not refused
  pub build_allowed : (domain values tree : ℕ) → s.width ≤ 512 → n + k ≤ 24 → domain ≤ 255 → values ≡ 2 * level_length n k l → tree ≡ 32 * tree_length s n k l
      → build_number domain (level_length n k l) (level_width s n k l) values tree ≡ 0
  unfolding build_number tree_length
  build_allowed domain values tree narrow h d v t =
      yes_all (build_questions domain (level_length n k l) (level_width s n k l) values tree)
      (le-leb domain 255 d, (is_pow_holds 24 _ (length_power h), (is_pow_holds 9 _ (width_power narrow), (eq-eqb _ 0 width-divides, (eq-eqb _ _ v, (eq-eqb _ _ t, tt))))))
