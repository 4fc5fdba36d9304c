-- Two words are the same where their halves are: what `==` computes is the test of their numbers.
use Prim.Native.Nat.{◌<◌}
use mathlib.Core.Path.{◌≡◌, refl, sym}
use mathlib.Core.Bool.{Bool, true, false, ◌&&◌}
use native.Mathlib.Omega.{arith}
use borrow.Author.Tests.{eq-eqb, ne_eqb, eqb-true, eqb-false}
use lib.Dec.{eqb}
use Rattle.field_gf128.specs.Word.{word}
use Rattle.field_gf128.specs.declared.Word.{Word}

pub words_equal : (a b : Word) → a.lo < 18446744073709551616 → b.lo < 18446744073709551616 → (eqb a.lo b.lo && eqb a.hi b.hi) ≡ eqb (word a) (word b)
unfolding word
words_equal a b h g = go (eqb a.lo b.lo) (eqb a.hi b.hi) refl refl
  where
    go : (p q : Bool) → eqb a.lo b.lo ≡ p → eqb a.hi b.hi ≡ q → (p && q) ≡ eqb (word a) (word b)
    go true true e f =
        let x = eqb-true a.lo b.lo e in
        let y = eqb-true a.hi b.hi f in
        sym (eq-eqb (word a) (word b) (omega arith))
    go false q e f = let n = eqb-false a.lo b.lo e in sym (ne_eqb (word a) (word b) (λ z. n (omega arith)))
    go true false e f =
        let x = eqb-true a.lo b.lo e in
        let n = eqb-false a.hi b.hi f in
        sym (ne_eqb (word a) (word b) (λ z. n (omega arith)))
