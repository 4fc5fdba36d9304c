-- `claim_fold_calls::call` meets its contract.
use mathlib.Core.Path.{refl, sym}
use native.Mathlib.Omega.{arith}
use lib.Seq.{length-take-le}
use Rattle.code_levels.proofs.Laying.{within, next-from}
use Rattle.code_levels.proofs.Slices.{number-folded}
use Rattle.claim_fold_calls.specs.helpers.Laid.{asked}
use Rattle.claim_fold_calls.proofs.Turns.{too_long, err-refused, ok-done, called_refused, called_no, called_done}
use borrow.Author.Rules.{rules}
use Rattle.claim_fold_calls.proofs.call.Goals as goal

pub returns-then-room-half : goal.returns-then-room-half
returns-then-room-half c =
    called_refused (too_long c.requires.level (asked c.args.x) _ _ refl c.if-room-half.true) refl

pub slice_bounds-fold_level-end-2 : goal.slice_bounds-fold_level-end-2
slice_bounds-fold_level-end-2 c =
    sym (length-take-le _ _ (omega (arith, c.requires.list_long)))

pub returns-then-is_err : goal.returns-then-is_err
returns-then-is_err c =
    let e = c.fold_level-folded.ensures in
    called_no _ _ c.requires.level c.requires.below (asked c.args.x) (number-folded _ _ _ e.value) e.coordinates_after (err-refused _ (search rules))

pub overflow_mul-to : goal.overflow_mul-to
overflow_mul-to c = let w = within c.requires.level c.level_length.ensures in search rules

pub overflow_add-to : goal.overflow_add-to
overflow_add-to c = let w = within c.requires.level c.level_length.ensures in search rules

pub lay-requires : goal.lay-requires
lay-requires c =
    let p = c.requires in let room = p.level.room in (
      record {
        room = record { n_most = room.n_most; k_most = room.k_most; levels_long = room.levels_long; half_long = search rules };
        within = omega (arith, p.below);
        from= = next-from _ _ _ p.level.from= c.level_length.ensures;
      },
      omega arith,
    )

pub returns : goal.returns
returns c =
    let p = c.requires in
    let e = c.fold_level-folded.ensures in
    called_done _ _ p.level p.below (asked c.args.x) (number-folded _ _ _ e.value) e.coordinates_after (ok-done _ (search rules)) _ _
    (next-from _ _ _ p.level.from= c.level_length.ensures) e.half_after c.lay.ensures c.put.ensures
