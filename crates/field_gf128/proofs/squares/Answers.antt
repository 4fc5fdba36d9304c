-- `field_gf128::squares` meets its contract. The loop's invariant: w is the word squared i times.
use mathlib.Core.Path.{◌≡◌, sym, ap, ◌∙◌}
use Prim.Native.Nat.{ℕ, ◌+◌}
use native.Mathlib.Numerals.{add-one}
use native.Mathlib.Omega.{arith}
use Rattle.theory_field.specs.Field.{sq, frob}
use Rattle.theory_field.proofs.Inverse.{frob-zero, frob-suc, frob-sq}
use Rattle.field_gf128.specs.Word.{word}
use Rattle.field_gf128.proofs.squares.Goals as goal

pub loop-i-init : goal.loop-i-init
loop-i-init c = sym (frob-zero (word c.args.a))

one_more : (i a : ℕ) → sq (frob i a) ≡ frob (i + 1) a
one_more i a = sym (ap (λ (n : ℕ). frob n a) (add-one i) ∙ frob-suc i a ∙ frob-sq i a)

pub loop-i-preserved : goal.loop-i-preserved
loop-i-preserved c =
    let a = c.args.a in c.square_by-w.ensures ∙ ap sq c.loop-i.invariant ∙ one_more c.loop-i._i (word a)

pub returns : goal.returns
returns c = c.loop-i.invariant ∙ ap (λ (i : ℕ). frob i (word c.args.a)) all
  where
    all : c.loop-i._i ≡ c.args.n
    all = omega arith
