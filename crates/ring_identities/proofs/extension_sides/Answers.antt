-- `ring_identities::extension_sides` meets its contract: what the calls promise is what the first identity is given.
use mathlib.Core.Path.{◌≡◌, refl, sym, ap₂, ◌∙◌}
use Prim.Native.Nat.{◌/◌, ◌^◌, ◌<◌}
use native.Mathlib.Omega.{arith}
use borrow.Author.Rules.{rules}
use lib.ListN.{length}
use Rattle.std.proofs.lemmas.Result.{err_from_is_err_and}
use Rattle.field_gf128.proofs.Halves.{word_settles}
use Rattle.ring_identities.specs.Identities.{row_sum}
use Rattle.ring_identities.specs.helpers.Sizes.{Sizes}
use Rattle.ring_identities.proofs.Identities.{evaluated, identities, rows_extension}
use Rattle.ring_identities.proofs.Sizes.{err-sides, sizes}
use Rattle.ring_identities.proofs.extension_sides.Goals as goal
use Rattle.ring_identities.proofs.extension_sides.Goals.{After-row_sum, After-sum_of_rows, In_ok-questions, Start}

-- where one did
pub returns-in_err-questions-clause-left_value : goal.returns-in_err-questions-clause-left_value
returns-in_err-questions-clause-left_value c =
    let p = err_from_is_err_and c.from_residual.result c.from_residual.ensures.1 in (err-sides _ p.0 _ 0 p.1).0

pub returns-in_err-questions-clause-right_value : goal.returns-in_err-questions-clause-right_value
returns-in_err-questions-clause-right_value c =
    let p = err_from_is_err_and c.from_residual.result c.from_residual.ensures.1 in (err-sides _ p.0 0 _ p.1).1

-- what is known where no question said no
lent : (c : In_ok-questions)
    → let a = c.args in Sizes a.n (length a.packed.now) (length a.point.now) (length a.table.now)
lent c = sizes _ _ _ _ _ c.in_ok-questions.ensures refl

pub partials_at-requires : goal.partials_at-requires
partials_at-requires c =
    lent (goal.at.partials_at-requires c).In_ok-questions

pub sum_of_rows-requires : goal.sum_of_rows-requires
sum_of_rows-requires c =
    let known = lent (goal.at.sum_of_rows-requires c).In_ok-questions in
    omega (arith, known.of_packed, known.of_table, c.partials_at.auto.table)

-- a row point has 7 coordinates
seven : (c : Start) → length c.args.row ≡ 7
seven c = search rules

-- the low halves of what is answered
left-low : (c : After-row_sum) → c.row_sum.result.lo < 2 ^ 64
left-low c = omega arith

right-low : (c : After-sum_of_rows) → c.sum_of_rows.result.lo < 2 ^ 64
right-low c = omega arith

pub returns : goal.returns
returns c =
    let a = c.args in let known = lent (goal.at.returns c).In_ok-questions in
    let v = c.partials_at.ensures in let rows = c.eq_coefficients-c.ensures in let x = c.row_sum.result in let y = c.sum_of_rows.result in let m : length a.packed.now / 2 ≡ 2 ^ a.n = omega (arith, known.of_packed) in
    let right = c.sum_of_rows.ensures ∙ rows_extension a.n _ a.packed.now _ _ a.row _ m known.of_point v.eq_table_left (seven (goal.at.returns c).Start) rows in
    let tied = c.row_sum.ensures ∙ identities.first _ _ _ _ _ a.row _ v (seven (goal.at.returns c).Start) rows in record { number_value = c.in_ok-questions.ensures; left_value = c.row_sum.ensures ∙ ap₂ row_sum (evaluated _ _ _ _ _ v) rows; right_value = right; same = word_settles x y (left-low (goal.at.returns c).After-row_sum) (right-low c) (tied ∙ sym right); table_after = v.eq_table_left }
