-- `code_fold_levels::fold_front` meets its contract.
use mathlib.Core.Path.{sym, ◌∙◌, ap}
use Prim.Native.Nat.{ℕ, ◌*◌}
use native.Mathlib.Omega.{arith}
use lib.ListN.{length}
use lib.Seq.{length-take-le}
use Rattle.code_levels.proofs.Laying.{Within, within}
use Rattle.code_levels.proofs.Slices.{length_of_part}
use Rattle.code_fold_levels.proofs.Folding.{level_paired, front-folded}
use borrow.Author.Rules.{rules}
use Rattle.code_fold_levels.proofs.fold_front.Goals as goal
use Rattle.code_fold_levels.proofs.fold_front.Goals.{After-level_length-size}

-- the level is within the levels, and half of it within `half`
fits : (c : After-level_length-size) → Within c.args.from c.level_length-size.result (length c.args.levels.now) (length c.args.half.now)
fits c = within c.requires.0 c.level_length-size.ensures

pub overflow_add-to : goal.overflow_add-to
overflow_add-to c = let w = (fits c) in search rules

pub overflow_mul-to : goal.overflow_mul-to
overflow_mul-to c = let w = fits c in search rules

pub offset_bounds-levels-from : goal.offset_bounds-levels-from
offset_bounds-levels-from c = let w = (fits c) in search rules

pub slice_bounds-fold_into-end : goal.slice_bounds-fold_into-end
slice_bounds-fold_into-end c = let w = (fits c) in search rules

pub slice_bounds-fold_into-end-2 : goal.slice_bounds-fold_into-end-2
slice_bounds-fold_into-end-2 c = let w = (fits (goal.at.slice_bounds-fold_into-end-2 c).After-level_length-size) in search rules

pub slice_bounds-fold_into-end-3 : goal.slice_bounds-fold_into-end-3
slice_bounds-fold_into-end-3 c = sym (length-take-le _ _ (fits (goal.at.slice_bounds-fold_into-end-3 c).After-level_length-size).half_le)

pub fold_into-requires : goal.fold_into-requires
fold_into-requires c =
    let w = fits (goal.at.fold_into-requires c).After-level_length-size in
    let es = c.level_length-size.ensures in let src = length_of_part _ _ _ c.requires.0.from= es c.args.levels.now (omega arith) in
    (level_paired _ _ _ c.requires.1 es src, src ∙ ap (λ (x : ℕ). 2 * x) (sym (length-take-le _ _ w.half_le)))

pub returns : goal.returns
returns c =
    let w = fits (goal.at.returns c).After-level_length-size in
    let out = c.fold_into.auto.out ∙ length-take-le _ _ w.half_le in
    front-folded _ _ _ _ _ _ _ c.requires.0.from= c.level_length-size.ensures out c.fold_into.ensures
