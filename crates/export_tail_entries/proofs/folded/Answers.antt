-- `export_tail_entries::folded` meets its contract.
use mathlib.Core.Path.{sym, ap, ◌∙◌}
use Prim.Native.Nat.{ℕ, ◌+◌, ◌*◌}
use native.Mathlib.Omega.{arith}
use lib.Seq.{length-take-le}
use Rattle.field_gf128.specs.Word.{word}
use Rattle.code_codeword.proofs.Lengths.{has_bit}
use Rattle.export_tail_entries.proofs.Padded.{length_blank, length_front}
use Rattle.export_tail_entries.proofs.Input.{power_small, fold-padded}
use Rattle.export_tail_entries.proofs.folded.Goals as goal

pub overflow_mul-whole : goal.overflow_mul-whole
overflow_mul-whole c = omega (arith, power_small {e = c.args.m + c.args.k} (omega arith))

pub slice_bounds-level-end : goal.slice_bounds-level-end
slice_bounds-level-end c = omega (arith, power_small {e = c.args.m + c.args.k} (omega arith))

pub slice_bounds-fold_into-end : goal.slice_bounds-fold_into-end
slice_bounds-fold_into-end c = sym (length-take-le _ _
    (omega (arith, power_small {e = c.args.m + c.args.k} (omega arith))))

pub slice_bounds-out-end : goal.slice_bounds-out-end
slice_bounds-out-end c = omega (
  arith,
  power_small {e = c.args.m + c.args.k} (omega arith),
  length_blank _ c.blank-out.ensures,
)

pub slice_bounds-fold_into-end-2 : goal.slice_bounds-fold_into-end-2
slice_bounds-fold_into-end-2 c = sym (length_front _ _
    (omega (arith, power_small {e = c.args.m + c.args.k} (omega arith)))
    c.blank-out.ensures)

pub fold_into-requires : goal.fold_into-requires
fold_into-requires c =
    let a = c.args in let half = c.power-half.ensures in let small = power_small {e = a.m + a.k} (omega arith) in
    let whole = length-take-le (2 * c.power-half.result) a.level (omega arith) in
    let front = length_front c.power-half.result c.blank-out.result (omega arith) c.blank-out.ensures in
    (has_bit (a.m + a.k) 0 _ (omega arith) (whole ∙ ap (λ (x : ℕ). 2 * x) half), whole ∙ ap (λ (x : ℕ). 2 * x) (sym front))

pub returns : goal.returns
returns c =
    let a = c.args in fold-padded a.m a.k (word a.r) c.power-half.result a.level c.blank-out.result c.fold_into.new.out
    c.requires.0 c.requires.2 c.power-half.ensures (omega arith) c.blank-out.ensures c.fold_into.auto.out c.fold_into.ensures
