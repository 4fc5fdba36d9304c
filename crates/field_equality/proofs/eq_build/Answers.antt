-- `field_equality::eq_build` meets its contract: the buffer begins with the table of the coordinates so far.
use mathlib.Core.Path.{◌≡◌, refl}
use Prim.Native.Nat.{◌^◌}
use native.Mathlib.Numerals.{add-one}
use native.Mathlib.Omega.{arith}
use lib.Pow.{pow_pos, pow_mono}
use Rattle.theory_field.specs.Words.{words}
use Rattle.theory_field.proofs.Words.{length-words, length-words-even}
use Rattle.field_gf128.specs.Word.{word}
use Rattle.field_equality.proofs.Growing.{room, begins-none, begins-more, begins-all}
use borrow.Author.Rules.{rules}
use Rattle.field_equality.proofs.eq_build.Goals as goal

pub put-requires : goal.put-requires
put-requires c = omega (arith, pow_pos c.args.n)

pub loop-i-init : goal.loop-i-init
unfolding word
loop-i-init c =
    let a = c.args in (
      refl,
      refl,
      refl,
      begins-none (words a.point.now) (words a.out.now) _ (omega (arith, length-words a.out.now, pow_pos a.n)) c.put.ensures,
    )

pub eq_double-requires : goal.eq_double-requires
eq_double-requires c =
    (omega (arith, room c.loop-i.i _ c.loop-i.len c.loop-i-test.true c.loop-i.invariant.0), search rules)

pub overflow_add-len : goal.overflow_add-len
overflow_add-len c =
    record { fits = omega (arith, room c.loop-i.i _ c.loop-i.len c.loop-i-test.true c.loop-i.invariant.0, pow_mono {j = 20} c.requires.0.coordinates) }

pub loop-i-preserved : goal.loop-i-preserved
loop-i-preserved c = (
  rw add-one (omega arith),
  search rules,
  search rules,
  begins-more (words c.args.point.now) (words c.loop-i.out) _ c.loop-i.i c.loop-i.len _
      (omega (arith, length-words c.args.point.now))
      c.loop-i.invariant.0
      (omega (arith, room c.loop-i.i _ c.loop-i.len c.loop-i-test.true c.loop-i.invariant.0, length-words c.loop-i.out))
      c.get-z.ensures
      c.eq_double.ensures
      c.loop-i.invariant.3,
)

pub returns : goal.returns
returns c =
    let z : c.loop-i.i ≡ c.args.n = omega arith in
    begins-all (words c.args.point.now) (words c.loop-i.out) c.args.n
    (length-words-even c.args.point.now c.args.n c.requires.0.of_point)
    (length-words-even c.loop-i.out (2 ^ c.args.n) (omega arith))
    (rw z at c.loop-i.invariant.3)
