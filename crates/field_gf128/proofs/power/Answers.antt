-- `field_gf128::power` meets its contract: each step adds two exponents of the ladder.
use mathlib.Core.Path.{◌≡◌, sym, ap, ap₂, ◌∙◌}
use Prim.Native.Nat.{ℕ, ◌+◌}
use native.Mathlib.Omega.{arith}
use Rattle.theory_field.specs.Field.{◌⊗◌, sq, frob, ladder}
use Rattle.theory_field.proofs.Inverse.{frob-once, ladder-one, ladder-add, inverse-sq}
use Rattle.field_gf128.specs.Word.{word}
use Rattle.field_gf128.proofs.Halves.{word_lt}
use Rattle.field_gf128.proofs.power.Goals as goal
use Rattle.field_gf128.proofs.power.Goals.{Start}

step : (m n a : ℕ) {r x y : ℕ} → r ≡ x ⊗ frob m y → x ≡ ladder m a → y ≡ ladder n a → r ≡ ladder (m + n) a
step m n a e p q = e ∙ ap₂ (λ (u v : ℕ). u ⊗ frob m v) p q ∙ sym (ladder-add m n a)

start : (c : Start) → word c.args.a ≡ ladder 1 (word c.args.a)
start c = sym (ladder-one (word c.args.a) (word_lt c.args.a (omega arith) (omega arith)))

pub returns : goal.returns
returns c =
    let a = word c.args.a in
    let a1 = start (goal.at.returns c).Start in
    let a2 = step _ _ a c.mul_squares-a2.ensures a1 a1 in
    let a3 = step _ _ a c.mul_squares-a3.ensures a1 a2 in
    let a6 = step _ _ a c.mul_squares-a6.ensures a3 a3 in
    let a12 = step _ _ a c.mul_squares-a12.ensures a6 a6 in
    let a24 = step _ _ a c.mul_squares-a24.ensures a12 a12 in
    let a48 = step _ _ a c.mul_squares-a48.ensures a24 a24 in
    let a96 = step _ _ a c.mul_squares-a96.ensures a48 a48 in
    let a120 = step _ _ a c.mul_squares-a120.ensures a24 a96 in
    let a126 = step _ _ a c.mul_squares-a126.ensures a6 a120 in
    let a127 = step _ _ a c.mul_squares-a127.ensures a1 a126 in
    c.squares.ensures ∙ frob-once (word _) ∙ ap sq a127 ∙ sym (inverse-sq a)

pub squares-requires : goal.squares-requires
squares-requires c = c.requires
