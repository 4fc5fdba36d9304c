-- `tables::fill` meets its contract. The loop's invariant: the first j rows stand there, and d is r times x^(b × j), while that is a word.
use mathlib.Core.Path.{◌≡◌, subst}
use Prim.Native.Nat.{ℕ, suc, ◌+◌, ◌*◌, ◌%◌, ◌^◌, ◌≤◌, ◌<◌}
use native.Mathlib.Nat.{mul-le-mul_left, mul-le-mul_right, suc-mul}
use native.Mathlib.Omega.{arith}
use Rattle.theory_field.specs.Field.{◌⊗◌}
use Rattle.theory_field.specs.Words.{words}
use Rattle.field_gf128.specs.Word.{word}
use Rattle.field_gf128.proofs.Halves.{joined-lt}
use Rattle.field_multiples.specs.helpers.Multiples.{Multiples}
use Rattle.field_multiples.specs.helpers.Rows.{Row}
use Rattle.field_multiples.proofs.Products.{no_rows, first_power, next_row, next_power, row_place}
use Rattle.field_multiples.proofs.fill.Goals as goal
use Rattle.field_multiples.proofs.fill.Goals.{In-loop-j}

-- a further row is within the table, and its power of x within a word
room : (b j rows : ℕ) → j < rows → (suc j * 2 ^ b ≤ rows * 2 ^ b) × (b * (j + 1) ≤ b * rows)
room b j rows h = (mul-le-mul_right (2 ^ b) h, mul-le-mul_left b (omega arith))

-- where the row begins, as it is computed
module _ (c : In-loop-j) where
  abbrev j : ℕ
  j = c.loop-j.j

  from : j * 2 ^ c.args.b % 2 ^ 64 ≡ j * 2 ^ c.args.b
  from = row_place c.args.b j (omega (arith, (room c.args.b j c.args.rows c.loop-j-test.true).0))

pub loop-j-init : goal.loop-j-init
unfolding word
loop-j-init c =
    let a = c.args in (
      λ h. first_power a.b (word a.r) (joined-lt a.r.hi a.r.lo (omega arith) (omega arith)),
      no_rows a.b (word a.r) (words a.t.now),
    )

pub row-d-requires : goal.row-d-requires
row-d-requires c =
    let a = c.args in (omega arith, omega (arith, from (goal.at.row-d-requires c).In-loop-j, suc-mul c.loop-j.j (2 ^ a.b), (room a.b c.loop-j.j a.rows c.loop-j-test.true).0))

pub loop-j-preserved : goal.loop-j-preserved
loop-j-preserved c =
    let a = c.args in let fits = (room a.b c.loop-j.j a.rows (omega arith)).1 in
    let d : word c.loop-j.d ≡ word a.r ⊗ 2 ^ (a.b * c.loop-j.j) = c.loop-j.invariant.0 (omega (arith, fits)) in (
      λ h. next_power a.b c.loop-j.j (word a.r) (word c.loop-j.d) (word c.row-d.result) h d c.row-d.ensures.0,
      next_row a.b c.loop-j.j (word a.r) (word c.loop-j.d) (words c.loop-j.t) (words c.row-d.new.t) (omega (arith, fits)) d
          (subst (λ k. Row a.b k (word c.loop-j.d) (words c.loop-j.t) (words c.row-d.new.t)) (from (goal.at.loop-j-preserved c).In-loop-j) c.row-d.ensures.1) c.loop-j.invariant.1,
    )

pub returns : goal.returns
returns c =
    let a = c.args in subst (λ j. Multiples a.b (j * 2 ^ a.b) (word a.r) (words c.loop-j.t)) (let z : c.loop-j.j ≡ a.rows = omega arith in z) c.loop-j.invariant.1
