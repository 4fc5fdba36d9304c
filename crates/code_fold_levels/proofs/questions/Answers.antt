-- `code_fold_levels::questions` meets its contract.
use Prim.Native.Nat.{ℕ}
use mathlib.Core.Path.{◌≡◌, refl}
use native.Mathlib.Omega.{arith}
use lib.Dec.{leb}
use Rattle.theory_laws.specs.Questions.{pick}
use Rattle.std.proofs.lemmas.Result.{err_from_is_err_and}
use Rattle.code_level.specs.Sizes.{size_number}
use Rattle.theory_laws.proofs.Questions.{asks, asks-given, no_le, yes_le}
use Rattle.theory_record.specs.Widths.{widths_of}
use Rattle.theory_record.specs.Accepted.{SizesFit}
use Rattle.theory_record.proofs.Ranges.{sizes-small}
use Rattle.code_level.proofs.Sizes.{sizes-said, asks-sizes, no_sizes}
use Rattle.code_level.proofs.Totals.{length-small, levels_fit}
use Rattle.code_fold_levels.specs.Levels.{fold_levels_number}
use Rattle.code_fold_levels.proofs.Sizes.{lengths_yes}
use borrow.Author.Rules.{rules}
use Rattle.code_fold_levels.proofs.questions.Goals as goal
use Rattle.code_fold_levels.proofs.questions.Goals.{Else-roots-n, In_ok-size_questions}

-- question 4's yes
sizes : (c : In_ok-size_questions) → SizesFit c.args.n c.args.k
sizes c = sizes-said _ _ _ c.in_ok-size_questions.ensures refl

pub returns-in_err-size_questions : goal.returns-in_err-size_questions
unfolding fold_levels_number
returns-in_err-size_questions c =
    let p = err_from_is_err_and c.from_residual.result c.from_residual.ensures.1 in
    rw (p.1, p.2) (no_sizes _ _ _ _ c.in_err-size_questions.ensures)

pub overflow_mul-n : goal.overflow_mul-n
overflow_mul-n c = omega (arith, (sizes c).n_most)

pub returns-then-challenges-n : goal.returns-then-challenges-n
unfolding fold_levels_number
returns-then-challenges-n c =
    let e : 0 ≡ size_number c.args.n c.args.k = c.in_ok-size_questions.ensures in search (asks, asks-given, asks-sizes) depth 18 fits 12000

pub levels_length-requires : goal.levels_length-requires
levels_length-requires c = sizes (goal.at.levels_length-requires c).In_ok-size_questions

pub overflow_mul-levels_length : goal.overflow_mul-levels_length
overflow_mul-levels_length c = let h = (levels_fit _ _ (sizes (goal.at.overflow_mul-levels_length c).In_ok-size_questions)) in search rules

pub returns-then-levels-levels_length : goal.returns-then-levels-levels_length
unfolding fold_levels_number
returns-then-levels-levels_length c =
    let e : 0 ≡ size_number c.args.n c.args.k = c.in_ok-size_questions.ensures in search (asks, asks-given, asks-sizes) depth 18 fits 12000

pub level_length-requires : goal.level_length-requires
level_length-requires c = (sizes-small _ _ (sizes (goal.at.level_length-requires c).In_ok-size_questions), (sizes (goal.at.level_length-requires c).In_ok-size_questions).n_least)

pub overflow_mul-level_length : goal.overflow_mul-level_length
overflow_mul-level_length c = let h = (length-small _ _ 1 (sizes-small _ _ (sizes (goal.at.overflow_mul-level_length c).In_ok-size_questions))) in search rules

pub returns-then-half-level_length : goal.returns-then-half-level_length
unfolding fold_levels_number
returns-then-half-level_length c =
    let e : 0 ≡ size_number c.args.n c.args.k = c.in_ok-size_questions.ensures in search (asks, asks-given, asks-sizes) depth 18 fits 12000

pub trees_size-requires : goal.trees_size-requires
trees_size-requires c = sizes (goal.at.trees_size-requires c).In_ok-size_questions

pub returns-then-trees-trees_size : goal.returns-then-trees-trees_size
unfolding fold_levels_number
returns-then-trees-trees_size c =
    let e : 0 ≡ size_number c.args.n c.args.k = c.in_ok-size_questions.ensures in search (asks, asks-given, asks-sizes) depth 18 fits 12000

pub overflow_mul-n-2 : goal.overflow_mul-n-2
overflow_mul-n-2 c = omega (arith, (sizes (goal.at.overflow_mul-n-2 c).In_ok-size_questions).n_most)

pub returns-then-roots-n : goal.returns-then-roots-n
unfolding fold_levels_number
returns-then-roots-n c =
    let e : 0 ≡ size_number c.args.n c.args.k = c.in_ok-size_questions.ensures in search (asks, asks-given, asks-sizes) depth 18 fits 12000

-- every length had its yes, and 7 is left
last-asked : (c : Else-roots-n) (r : ℕ) → let a = c.args in r ≡ pick (leb a.base 200) 0 7
    → r ≡ fold_levels_number (widths_of a.set) a.n a.k a.base a.challenges a.levels a.half a.trees a.roots
last-asked c r e =
    lengths_yes _ _ _ _ _ _ _ _ _ c.in_ok-size_questions.ensures c.if-challenges-n.false c.levels_length.ensures
    c.if-levels-levels_length.false c.level_length.ensures c.if-half-level_length.false c.trees_size.ensures c.if-trees-trees_size.false c.if-roots-n.false e

pub returns-then-base-gt200 : goal.returns-then-base-gt200
returns-then-base-gt200 c = last-asked (goal.at.returns-then-base-gt200 c).Else-roots-n 7 (no_le _ _ _ _ _ c.if-base-gt200.true refl)

pub returns : goal.returns
returns c = last-asked (goal.at.returns c).Else-roots-n 0 (yes_le _ _ _ _ _ c.if-base-gt200.false refl)
