-- `code_levels::lay` meets its contract.
use mathlib.Core.Path.{sym, ◌∙◌, ap}
use native.Mathlib.Omega.{arith}
use lib.ListN.{length}
use lib.Seq.{length-take-le}
use Rattle.code_levels.proofs.Laying.{within}
use Rattle.code_levels.proofs.Slices.{length_of_part, part-laid, laid_same, twice-fits}
use borrow.Author.Rules.{rules}
use Rattle.code_levels.proofs.lay.Goals as goal

pub overflow_mul-room : goal.overflow_mul-room
overflow_mul-room c = let w = within c.requires.0 c.level_length-room.ensures in search rules

pub overflow_add-to : goal.overflow_add-to
overflow_add-to c = let w = within c.requires.0 c.level_length-room.ensures in search rules

pub slice_bounds-copy-end : goal.slice_bounds-copy-end
slice_bounds-copy-end c =
    let t = twice-fits c.requires.0 c.requires.1 c.level_length-room.ensures in
    sym (length-take-le _ _ t)

pub offset_bounds-levels-from : goal.offset_bounds-levels-from
offset_bounds-levels-from c = let w = within c.requires.0 c.level_length-room.ensures in search rules

pub slice_bounds-copy-end-2 : goal.slice_bounds-copy-end-2
slice_bounds-copy-end-2 c = let w = within c.requires.0 c.level_length-room.ensures in search rules

pub copy-requires : goal.copy-requires
copy-requires c =
    let p = c.requires in let es = c.level_length-room.ensures in let w = within p.0 es in
    length_of_part _ _ _ p.0.from= es _ (omega arith) ∙ sym (length-take-le _ _ (twice-fits p.0 p.1 es))

pub returns : goal.returns
returns c =
    let p = c.requires in let es = c.level_length-room.ensures in let w = within p.0 es in
    let t = length-take-le _ _ (twice-fits p.0 p.1 es) in
    part-laid _ _ _ p.0.from= es _ _ (omega arith) (ap length c.copy.ensures ∙ t) ∙ laid_same _ _ _ _ _ es c.copy.ensures
