-- `tree_build::put_leaves` meets its contract.
use Rattle.theory_blake3.proofs.Modes.{length-under}
use Rattle.tree_by_fours.proofs.Walk.{by_fours-le}
use Rattle.tree_build.proofs.Leaves.{leaves_join}
use native.Mathlib.Omega.{arith}
use Rattle.tree_build.proofs.put_leaves.Goals as goal

pub put_leaves-done-requires : goal.put_leaves-done-requires
put_leaves-done-requires c =
    (c.requires, omega arith)

pub put_leaves_from-requires : goal.put_leaves_from-requires
put_leaves_from-requires c =
    let y = c.requires in record {
      fit = record { domain_le = y.domain_le; shaped = y.shaped; within = y.within; values_are = y.values_are; room = omega (arith, y.room) };
      begun = by_fours-le _ _ _ c.put_leaves-done.ensures.value;
      work = omega arith;
    }

pub returns : goal.returns
returns c =
    leaves_join _ (length-under _) _ _ _ _ _ _ _ _ _ _ (by_fours-le _ _ _ c.put_leaves-done.ensures.value) c.put_leaves-done.ensures.out_after
    c.put_leaves_from.ensures
