-- `code_level_parts::next_questions` meets its contract.
use Rattle.std.proofs.lemmas.Result.{err_from_is_err_and}
use Rattle.code_level.specs.Sizes.{size_number}
use Rattle.theory_laws.proofs.Questions.{asks, asks-given}
use Rattle.theory_record.proofs.Ranges.{sizes-small}
use Rattle.code_level.proofs.Sizes.{sizes-said, asks-sizes, no_sizes}
use Rattle.code_level.proofs.Totals.{length-small}
use Rattle.code_level_parts.specs.Numbers.{next_part_number}
use Prim.Native.Nat.{◌*◌}
use mathlib.Core.Path.{◌≡◌, refl, sym, ap, ◌∙◌}
use native.Mathlib.Omega.{arith}
use borrow.Author.Tests.{leb-true}
use borrow.Author.Rules.{rules}
use Rattle.code_level_parts.proofs.Allowed.{next_yes}
use Rattle.code_level_parts.proofs.next_questions.Goals as goal

pub returns-in_err-size_questions : goal.returns-in_err-size_questions
unfolding next_part_number
returns-in_err-size_questions c =
    let p = err_from_is_err_and c.from_residual.result c.from_residual.ensures.1 in
    rw (p.1, p.2) (no_sizes _ _ _ _ c.in_err-size_questions.ensures)

pub returns-then-l-n : goal.returns-then-l-n
unfolding next_part_number
returns-then-l-n c =
    let e : 0 ≡ size_number c.args.n c.args.k = c.in_ok-size_questions.ensures in search (asks, asks-given, asks-sizes) depth 16 fits 8000

pub level_length-requires : goal.level_length-requires
level_length-requires c =
    let small = sizes-small _ _ (sizes-said _ _ _ c.in_ok-size_questions.ensures refl) in
    search rules

pub overflow_mul-level_length : goal.overflow_mul-level_length
overflow_mul-level_length c =
    let small = sizes-small _ _ (sizes-said _ _ _ c.in_ok-size_questions.ensures refl) in
    let h = length-small c.args.n c.args.k c.args.l small in
    search rules

pub returns-then-values-level_length : goal.returns-then-values-level_length
unfolding next_part_number
returns-then-values-level_length c =
    let e : 0 ≡ size_number c.args.n c.args.k = c.in_ok-size_questions.ensures in search (asks, asks-given, asks-sizes) depth 16 fits 8000

pub returns-then-out-ne0 : goal.returns-then-out-ne0
unfolding next_part_number
returns-then-out-ne0 c =
    let e : 0 ≡ size_number c.args.n c.args.k = c.in_ok-size_questions.ensures in search (asks, asks-given, asks-sizes) depth 16 fits 8000

pub in_next-requires : goal.in_next-requires
in_next-requires c =
    let small = sizes-small _ _ (sizes-said _ _ _ c.in_ok-size_questions.ensures refl) in
    search rules

pub returns-then-not-in_next : goal.returns-then-not-in_next
unfolding next_part_number
returns-then-not-in_next c =
    let e : 0 ≡ size_number c.args.n c.args.k = c.in_ok-size_questions.ensures in search (asks, asks-given, asks-sizes) depth 16 fits 8000

pub returns : goal.returns
returns c =
    let a = c.args in let z = sizes-said a.n a.k _ c.in_ok-size_questions.ensures refl in
    next_yes a.n a.k a.l a.first a.values a.out z
    (record {
      n_le = z.n_most;
      k_le = z.k_most;
      level-lt = omega arith;
      values_are = c.if-values-level_length.false ∙ ap (◌*◌ 2) c.level_length.ensures;
      whole = c.if-out-ne0.false;
      within = leb-true _ _ (sym c.in_next.ensures ∙ c.if-not-in_next.false);
    })
