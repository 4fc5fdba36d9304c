-- What the answers 'yes' to questions 8, 9 and 10 settle.
use Prim.Native.Nat.{ℕ, ◌*◌, ◌^◌, ◌≤◌, ◌<◌}
use mathlib.Core.Path.{◌≡◌}
use native.Mathlib.Omega.{arith}
use native.Mathlib.Nat.{mul-le-mul_left, div-le_self}
use native.Mathlib.Decide.{dec_le}
use lib.Pow.{pow-lt}
use Rattle.theory_laws.proofs.Questions.{AllYes}
use Rattle.theory_merkle.specs.Tree.{depth_of}
use Rattle.theory_merkle.specs.Shape.{Bounded}
use Rattle.theory_merkle.specs.Questions.{shape}
use Rattle.theory_merkle.proofs.Sizes.{shape_of, is_pow_yes, power_le}

depth-within : (m h width count : ℕ) → 0 < width → count ≡ 2 ^ h * width → count ≤ 2 ^ m → h ≤ m
depth-within m h width count p e k = go (dec_le h m)
  where
    go : Dec (h ≤ m) → h ≤ m
    go (yes l) = l
    go (no l) = absurd (omega (arith, pow-lt {i = m} {j = h} (omega arith), mul-le-mul_left (2 ^ h) p))

pub bounded : (count width : ℕ) → AllYes (shape count width) → Bounded count width
bounded count width y =
    let s = shape_of 24 9 count width y.0 y.1.0 y.1.1.0 in
    let c = power_le 24 count (is_pow_yes 24 count y.0) in
    record {
      shape = s;
      count_le = c;
      width-le = power_le 9 width (is_pow_yes 9 width y.1.0);
      groups_le = omega (arith, c, div-le_self count width);
      depth_le = depth-within 24 (depth_of count width) width count s.filled s.whole c;
    }
