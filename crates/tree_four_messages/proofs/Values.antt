-- The values of groups, as a part of a tree's.
use Prim.Native.Nat.{ℕ, suc, ◌+◌, ◌-◌, ◌*◌, ◌≤◌, ◌<◌}
use mathlib.Core.Path.{◌≡◌, ◌∙◌, ap}
use mathlib.Core.List.{List}
use native.Mathlib.Nat.{mul-suc, mul-le-mul_left}
use native.Mathlib.Omega.{arith}
use lib.ListN.{length, take, drop, length-drop}
use lib.Seq.{length-take-le}
use Rattle.theory_field.specs.Words.{words}
use Rattle.theory_field.proofs.Words.{take_words, drop-words}

pub group_length : (values : List ℕ) (from n : ℕ) → from + n ≤ length values → length (take (from + n - from) (drop from values)) ≡ n
group_length values from n h = let e : from + n - from ≡ n = omega arith in rw e (length-take-le n (drop from values) (simp length-drop (omega arith)))

pub group_words : (values : List ℕ) (from n width a : ℕ) → from ≡ 2 * a → n ≡ 2 * width
    → words (take (from + n - from) (drop from values)) ≡ take width (drop a (words values))
group_words values from n width a h k =
    let e : from + n - from ≡ 2 * width = omega arith in
    rw (e, h) (take_words width (drop (2 * a) values) ∙ ap (take width) (drop-words a values))

-- group k of four ends within their values
pub group_of_four : (width k : ℕ) → k < 4 → 2 * (width * k) + 2 * width ≤ 8 * width
group_of_four width k h =
    let e : width * suc k ≤ width * 4 = mul-le-mul_left width (omega arith) in
    omega (arith, e, mul-suc width k)
