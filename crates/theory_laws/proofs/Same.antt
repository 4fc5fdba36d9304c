-- The test of equality, element after element, as a loop asks it.
use Prim.Native.Nat.{ℕ, ◌+◌, ◌<◌, ◌≤◌}
use mathlib.Core.Path.{◌≡◌, refl}
use mathlib.Core.Bool.{Bool, true, false}
use mathlib.Core.List.{List}
use native.Mathlib.Omega.{arith}
use native.Mathlib.Numerals.{add-one}
use borrow.Author.Tests.{eq-eqb, ne_eqb}
use lib.ListN.{length, get_or, drop, drop_of_length-le}
use lib.Seq.{drop-cons}
use Rattle.theory_laws.specs.Lists.{same}

-- what is left of the test from element i on
unfoldable pub same_from : List ℕ → List ℕ → ℕ → Bool
same_from a b i = same (drop i a) (drop i b)

pub same_begin : (a b : List ℕ) → same_from a b 0 ≡ same a b
unfolding same_from
same_begin a b = refl

module _ (a b : List ℕ) (i m : ℕ) (r : Bool) (e : same_from a b i ≡ r) (n : length a ≡ m) (k : length b ≡ m) where
  pub same_step : i < m → get_or a i 0 ≡ get_or b i 0 → same_from a b (i + 1) ≡ r
  unfolding same_from same
  same_step h f =
      let ha : i < length a = omega arith in
      let hb : i < length b = omega arith in
      rw add-one (rw (drop-cons a i 0 ha, drop-cons b i 0 hb, eq-eqb (get_or a i 0) (get_or b i 0) f) at e)

  pub same_stop : i < m → (get_or a i 0 ≡ get_or b i 0 → ⊥) → false ≡ r
  unfolding same_from same
  same_stop h f =
      let ha : i < length a = omega arith in
      let hb : i < length b = omega arith in
      rw (drop-cons a i 0 ha, drop-cons b i 0 hb, ne_eqb (get_or a i 0) (get_or b i 0) f) at e

  pub same_end : m ≤ i → true ≡ r
  unfolding same_from same
  same_end h = rw (drop_of_length-le a {i = i} (omega arith), drop_of_length-le b {i = i} (omega arith)) at e
