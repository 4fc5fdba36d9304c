-- `field_gf128::clmul61` meets its contract. The loop's invariant: p is the product with the windows of b that are passed.
use mathlib.Core.Path.{◌≡◌, refl, sym, ap, ap₂, ◌∙◌, subst}
use Prim.Native.Nat.{ℕ, ◌+◌, ◌-◌, ◌*◌, ◌/◌, ◌%◌, ◌^◌, ◌≤◌, ◌<◌}
use native.Mathlib.Nat.{lt_of_lt_of_le, zero-add, div-one}
use native.Mathlib.Omega.{arith}
use lib.Bits.{bit_and, and_mask}
use lib.Pow.{pow_mono}
use Rattle.theory_laws.specs.Xor.{◌⊕◌}
use Rattle.theory_laws.specs.Table.{at}
use Rattle.theory_laws.proofs.Table.{at-tab}
use Rattle.theory_field.specs.LongProduct.{long}
use Rattle.theory_field.proofs.LongProduct.{long_lt}
use Rattle.field_gf128.specs.Word.{word}
use Rattle.field_gf128.proofs.Windows.{window}
use Rattle.field_gf128.proofs.clmul61.Goals as goal

pub multiples-t-requires : goal.multiples-t-requires
multiples-t-requires c = c.requires

pub loop-j-init : goal.loop-j-init
unfolding word long
loop-j-init c = refl

pub shl4-requires : goal.shl4-requires
shl4-requires c =
    subst (λ (x : ℕ). x < 2 ^ 124) (sym c.loop-j.invariant)
    (lt_of_lt_of_le (long_lt (4 * c.loop-j.j) 61 c.args.a (c.args.b / 2 ^ (64 - 4 * c.loop-j.j)) c.requires) (pow_mono (le c.loop-j.j (omega arith))))
  where
    le : (j : ℕ) → j ≤ 15 → 61 + 4 * j ≤ 124
    le j h = omega arith

-- a window is a number below 16
window-lt : (x : ℕ) → bit_and x 15 < 16
window-lt x = omega (arith, and_mask x 4)

pub offset_bounds-t-n : goal.offset_bounds-t-n
offset_bounds-t-n c = omega (arith, window-lt (c.args.b / 2 ^ (60 - 4 * c.loop-j.j)))

pub bounds-t-n : goal.bounds-t-n
bounds-t-n c = window-lt (c.args.b / 2 ^ (60 - 4 * c.loop-j.j))

pub loop-j-preserved : goal.loop-j-preserved
unfolding word
loop-j-preserved c =
    let a = c.args in let v = a.b / 2 ^ (60 - 4 * c.loop-j.j) in
    let entry : at c.multiples-t.result (bit_and v 15) ≡ long 4 a.a (v % 16) =
    ap (λ t. at t (bit_and v 15)) c.multiples-t.ensures ∙ at-tab 16 (long 4 a.a) (bit_and v 15) (window-lt v) ∙ ap (long 4 a.a) (and_mask v 4) in
    c.add-p.ensures
    ∙ ap₂ ◌⊕◌ (c.shl4.ensures ∙ ap (λ (x : ℕ). x * 16) c.loop-j.invariant) (zero-add (at c.multiples-t.result (bit_and v 15)) ∙ entry)
    ∙ sym (window a.a a.b c.loop-j.j (omega arith))

pub returns : goal.returns
returns c =
    let a = c.args in c.loop-j.invariant ∙ ap (λ (j : ℕ). long (4 * j) a.a (a.b / 2 ^ (64 - 4 * j))) z ∙ ap (long 64 a.a) (div-one a.b)
  where
    z : c.loop-j.j ≡ 16
    z = omega arith
