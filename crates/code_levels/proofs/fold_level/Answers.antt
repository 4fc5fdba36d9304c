-- `code_levels::fold_level` meets its contract.
use Prim.Native.Nat.{ℕ, ◌*◌}
use mathlib.Core.Path.{sym, ◌∙◌, ap}
use native.Mathlib.Omega.{arith}
use lib.Seq.{length-take-le, drop_at}
use Rattle.theory_laws.specs.Refusals.{answered}
use Rattle.field_gf128.specs.Word.{word}
use Rattle.theory_record.proofs.Offsets.{values_of_part}
use Rattle.code_levels.proofs.Laying.{within}
use Rattle.code_levels.proofs.Slices.{length_of_part, fold-lent, fold-front}
use borrow.Author.Rules.{rules}
use Rattle.code_levels.proofs.fold_level.Goals as goal

pub overflow_mul-to : goal.overflow_mul-to
overflow_mul-to c = let w = within c.requires.0 c.level_length.ensures in search rules

pub overflow_add-to : goal.overflow_add-to
overflow_add-to c = let w = within c.requires.0 c.level_length.ensures in search rules

pub offset_bounds-levels-from : goal.offset_bounds-levels-from
offset_bounds-levels-from c =
    let w = within c.requires.0 c.level_length.ensures in
    search rules

pub slice_bounds-fold-end : goal.slice_bounds-fold-end
slice_bounds-fold-end c =
    let w = within c.requires.0 c.level_length.ensures in
    search rules

pub slice_bounds-fold-end-3 : goal.slice_bounds-fold-end-3
slice_bounds-fold-end-3 c =
    sym (length-take-le _ _ c.requires.1)

pub returns : goal.returns
returns c =
    let p = c.requires.0 in
    let a = c.args in
    let es = c.level_length.ensures in
    let w = within p es in
    let e = c.fold.ensures in
    let room = length-take-le _ _ c.requires.1 in
    let out = c.fold.auto.out ∙ room in
    record {
      value = fold-lent _ _ _ _ _ _ _ e.value (length_of_part _ _ _ p.from= es _ (omega arith) ∙ ap (λ (x : ℕ). 2 * x) es) room;
      coordinates_after = e.coordinates_after;
      half_after = fold-front _ (answered c.fold.result) a.var (word a.r) a.half.now _ _ _ _ out e.out_after (values_of_part _ _ _ p.from= es _);
      half_unchanged = drop_at c.fold.new.out _ _ out;
    }
