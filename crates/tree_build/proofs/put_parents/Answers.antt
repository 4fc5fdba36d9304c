-- `tree_build::put_parents` meets its contract.
use Rattle.theory_blake3.proofs.Modes.{length-under}
use Rattle.tree_by_fours.proofs.Walk.{by_fours-le}
use Rattle.tree_build.proofs.Levels.{parents_join}
use native.Mathlib.Omega.{arith}
use Rattle.tree_build.proofs.put_parents.Goals as goal

pub put_parents_from-requires : goal.put_parents_from-requires
put_parents_from-requires c =
    record {
      short = c.requires.0;
      room = omega arith;
      begun = by_fours-le _ _ _ c.put_parents-done.ensures.value;
      work = omega arith;
    }

pub returns : goal.returns
returns c =
    parents_join _ (length-under _) _ _ _ _ _ _ _ _ (by_fours-le _ _ _ c.put_parents-done.ensures.value) c.requires.1
    c.put_parents-done.ensures.tree_after c.put_parents_from.ensures
