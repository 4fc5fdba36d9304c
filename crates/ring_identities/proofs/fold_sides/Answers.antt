-- `ring_identities::fold_sides` meets its contract: what the calls promise is what the second identity is given.
use mathlib.Core.Path.{◌≡◌, refl, sym, ap, ◌∙◌}
use Prim.Native.Nat.{◌/◌, ◌^◌, ◌<◌}
use native.Mathlib.Omega.{arith}
use borrow.Author.Rules.{rules}
use lib.ListN.{length}
use Rattle.theory_laws.specs.Table.{at}
use Rattle.theory_multilinear.specs.Partials.{fold_partials}
use Rattle.std.proofs.lemmas.Result.{err_from_is_err_and}
use Rattle.field_gf128.proofs.Halves.{word_settles}
use Rattle.field_pack.specs.Phi.{coefficients}
use Rattle.ring_identities.specs.Identities.{sum_with_table}
use Rattle.ring_identities.specs.helpers.Sizes.{Sizes}
use Rattle.ring_identities.proofs.Identities.{evaluated, identities}
use Rattle.theory_laws.proofs.Refusals.{not-refused}
use Rattle.ring_identities.proofs.Sizes.{err-sides, sizes, eq-passes, fold-passes}
use Rattle.ring_identities.proofs.fold_sides.Goals as goal
use Rattle.ring_identities.proofs.fold_sides.Goals.{After-unwrap-left, After-sum_of_products, In_ok-questions}

-- where one did
pub returns-in_err-questions-clause-left_value : goal.returns-in_err-questions-clause-left_value
returns-in_err-questions-clause-left_value c =
    let p = err_from_is_err_and c.from_residual.result c.from_residual.ensures.1 in (err-sides _ p.0 _ 0 p.1).0

pub returns-in_err-questions-clause-right_value : goal.returns-in_err-questions-clause-right_value
returns-in_err-questions-clause-right_value c =
    let p = err_from_is_err_and c.from_residual.result c.from_residual.ensures.1 in (err-sides _ p.0 0 _ p.1).1

-- what is known where no question said no
lent : (c : In_ok-questions)
    → let a = c.args in Sizes a.n (length a.packed.now) (length a.point.now) (length a.table.now)
lent c = sizes _ _ _ _ _ c.in_ok-questions.ensures refl

pub partials_at-requires : goal.partials_at-requires
partials_at-requires c =
    lent (goal.at.partials_at-requires c).In_ok-questions

pub sum_of_products-requires : goal.sum_of_products-requires
sum_of_products-requires c =
    let known = lent (goal.at.sum_of_products-requires c).In_ok-questions in
    omega (arith, known.of_packed, known.of_table, c.partials_at.auto.table, c.materialize.auto.out)

pub unwrap-left-requires : goal.unwrap-left-requires
unwrap-left-requires c = not-refused _ (c.fold_partials.ensures.number_value ∙ fold-passes _ (search rules))

pub unwrap-requires : goal.unwrap-requires
unwrap-requires c =
    let known = lent (goal.at.unwrap-requires c).In_ok-questions in
    not-refused _ (c.materialize.ensures.value ∙ eq-passes _ _ _ _ _ known c.partials_at.auto.table)

-- the low halves of what is answered
left-low : (c : After-unwrap-left) → c.unwrap-left.result.lo < 2 ^ 64
left-low c = omega arith

right-low : (c : After-sum_of_products) → c.sum_of_products.result.lo < 2 ^ 64
right-low c = omega arith

pub returns : goal.returns
returns c =
    let a = c.args in let known = lent (goal.at.returns c).In_ok-questions in
    let v = c.partials_at.ensures in let x = c.unwrap-left.result in let y = c.sum_of_products.result in let m : length a.packed.now / 2 ≡ 2 ^ a.n = omega (arith, known.of_packed) in
    let table = rw c.unwrap.ensures at c.materialize.ensures.out_after in
    let left = rw c.unwrap-left.ensures at c.fold_partials.ensures.word_value in
    let right = rw m at c.sum_of_products.ensures in
    let tied = left ∙ identities.second _ _ _ _ _ _ a.rb v table in
    record {
      number_value = c.in_ok-questions.ensures;
      left_value = left ∙ ap (λ s. fold_partials (at s) (coefficients a.rb)) (evaluated _ _ _ _ _ v);
      right_value = right ∙ ap (sum_with_table a.n a.packed.now) table;
      same = word_settles x y (left-low (goal.at.returns c).After-unwrap-left) (right-low c) (tied ∙ sym right);
      table_after = table;
    }
