-- `code_fold_levels::next_level` meets its contract.
use native.Mathlib.Numerals.{add-one}
use native.Mathlib.Omega.{arith}
use Rattle.code_levels.proofs.Laying.{within, next-from}
use Rattle.code_fold_levels.proofs.Folding.{next-laid}
use borrow.Author.Rules.{rules}
use Rattle.code_fold_levels.proofs.next_level.Goals as goal

pub overflow_add-to : goal.overflow_add-to
overflow_add-to c =
    let w = within c.requires.0 c.level_length.ensures in
    search rules

pub overflow_mul-to : goal.overflow_mul-to
overflow_mul-to c =
    let w = within c.requires.0 c.level_length.ensures in
    search rules

pub lay-requires : goal.lay-requires
lay-requires c =
    let lent = c.requires.0 in let room = lent.room in (
      record {
        room = record { n_most = room.n_most; k_most = room.k_most; levels_long = room.levels_long; half_long = search rules };
        within = omega arith;
        from= = next-from _ _ _ lent.from= c.level_length.ensures;
      },
      omega arith,
    )

pub returns : goal.returns
returns c =
    record { value = rw add-one at (next-from _ _ _ c.requires.0.from= c.level_length.ensures); levels_after = next-laid _ _ _ _ _ _ _ c.requires.1 c.fold_front.ensures c.lay.ensures }
