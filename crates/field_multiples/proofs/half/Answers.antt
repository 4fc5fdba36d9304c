-- `tables::half` meets its contract. The loop's invariant: what is left of h, moved to its place, times r, and the sum so far give
-- the product.
use mathlib.Core.Path.{◌≡◌, ap, ◌∙◌}
use Prim.Native.Nat.{suc, ◌+◌, ◌*◌, ◌/◌, ◌^◌, ◌≤◌}
use native.Mathlib.Omega.{arith}
use Rattle.theory_field.specs.Field.{◌⊗◌}
use Rattle.theory_field.specs.Words.{words}
use Rattle.field_gf128.specs.Word.{word}
use Rattle.field_multiples.proofs.Products.{first-window, next-window, shifted-window, last-window, rows-within, row_below}
use Rattle.field_multiples.proofs.half.Goals as goal
use Rattle.field_multiples.proofs.half.Goals.{In-loop-i}

-- the row of this window is in the table
module _ (c : In-loop-i) where
  within : suc (c.args.j + c.loop-i.i) * 2 ^ c.args.b ≤ (c.args.j + c.args.n) * 2 ^ c.args.b
  within = rows-within c.args.b c.args.j c.args.n c.loop-i.i c.loop-i-test.true

pub loop-i-init : goal.loop-i-init
unfolding word
loop-i-init c =
    let a = c.args in ((first-window a.b a.j 0 a.h).0, λ r m. (first-window a.b a.j r a.h).1)

pub overflow_add-j : goal.overflow_add-j
overflow_add-j c = omega (arith, within c, row_below c.args.b (c.args.j + c.loop-i.i))

pub entry-requires : goal.entry-requires
entry-requires c = (c.requires.0, omega (arith, within c))

pub loop-i-preserved : goal.loop-i-preserved
loop-i-preserved c =
    let a = c.args in (
      shifted-window a.b c.loop-i.i c.loop-i.x a.h c.loop-i.invariant.0,
      λ r m.
          let z : a.j + (c.loop-i.i + 1) ≡ a.j + c.loop-i.i + 1 = omega arith in
          rw (c.add-p.ensures, c.entry.ensures, z)
          (next-window a.b ((a.j + a.n) * 2 ^ a.b) (a.j + c.loop-i.i) r (word c.loop-i.p) c.loop-i.x (r ⊗ (a.h * 2 ^ (a.b * a.j))) (words a.t.now) m
          (within (goal.at.loop-i-preserved c).In-loop-i) (c.loop-i.invariant.1 r m)),
    )

pub returns : goal.returns
returns c r m =
    let a = c.args in let z : c.loop-i.i ≡ a.n = omega arith in
    last-window a.b a.n r (word c.loop-i.p) c.loop-i.x a.h (a.b * (a.j + c.loop-i.i)) (r ⊗ (a.h * 2 ^ (a.b * a.j)))
    (c.loop-i.invariant.0 ∙ ap (λ i. a.h / 2 ^ (a.b * i)) z) c.requires.1 (omega arith) (c.loop-i.invariant.1 r m)
